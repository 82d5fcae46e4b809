-- What it is to be the text of a history, and which line of a text is the first that is none.
use Rattle.std.specs.Prelude.{ℕ, ◌≡◌, ◌≤◌, ◌+◌, List, [], ◌∷◌, ◌++◌, length, flat_map}
use Rattle.std.specs.List.{AllByRecursion}
use Rattle.vale_entry.specs.declared.entry.Ask.{Ask}
use Rattle.vale_entry.specs.declared.entry.Ask.TheVariants.{Sync, Finish, Get}
use Rattle.vale_entry.specs.declared.entry.Entry.{Entry}
use Rattle.vale_entry.specs.Laws.{ArePrintable}
use Rattle.vale_entry.specs.Transcript.{newest, start_line, entry_line, entry_lines, end_line, text_of}
use Rattle.vale_fields.specs.Widths.{Is32, FitsFields}
use Rattle.vale_text.specs.declared.reader.TextFault.{TextFault}
use Rattle.vale_text.specs.declared.reader.TextFault.TheVariants.{BadLine, NoMemory}
use Rattle.vale_text.specs.Lines.{most_pool_of}

-- what a first line may tell: a version from the oldest one that is read up to the newest, and a pool of
-- a size that pools may have
pub record IsHead (oldest version pool : ℕ) : Type 0 where
  pub since : oldest ≤ version
  pub known : version ≤ newest
  pub least : 1 ≤ pool
  pub most : pool ≤ most_pool_of version

-- what a transcript may tell: besides a first line printable entries, and numbers that fit their fields
pub record IsTold (oldest version pool : ℕ) (history : List Entry) (free : ℕ) : Type 0 where
  pub head : IsHead oldest version pool
  pub printable : ArePrintable 1 history
  pub fits : AllByRecursion FitsFields history
  pub free_fits : Is32 free

-- the text that tells all this
pub record IsTextWith (oldest : ℕ) (bytes : List ℕ) (version pool : ℕ) (history : List Entry) (free : ℕ) : Type 0 where
  pub told : IsTold oldest version pool history free
  pub text : bytes ≡ text_of version pool history free

-- the text of a history, in one of the versions that are read
pub record IsTextOf (oldest : ℕ) (bytes : List ℕ) (history : List Entry) : Type 0 where
  pub version : ℕ
  pub pool : ℕ
  pub free : ℕ
  pub is : IsTextWith oldest bytes version pool history free

abbrev pub numbered_lines : ℕ → ℕ → List Entry → List (List ℕ)
numbered_lines version number [] = []
numbered_lines version number (entry ∷ entries) = entry_line version number entry ∷ numbered_lines version (number + 1) entries

-- the lines of a transcript
abbrev pub lines_of : ℕ → ℕ → List Entry → ℕ → List (List ℕ)
lines_of version pool history free = start_line version pool ∷ (numbered_lines version 1 history ++ end_line (length history) free ∷ [])

-- some transcript begins with these lines
pub record BeginTranscript (oldest : ℕ) (lines : List (List ℕ)) : Type 0 where
  pub version : ℕ
  pub pool : ℕ
  pub history : List Entry
  pub free : ℕ
  pub after : List (List ℕ)
  pub told : IsTold oldest version pool history free
  pub begins : lines_of version pool history free ≡ lines ++ after

-- The lines before this one begin some transcript, and no transcript that they begin goes on as the text
-- does; the text is that of no history.
pub record IsFirstBad (oldest : ℕ) (bytes : List ℕ) (line : ℕ) : Type 0 where
  pub before : List (List ℕ)
  pub rest : List ℕ
  pub cut : bytes ≡ flat_map (λ l. l) before ++ rest
  pub count : length before + 1 ≡ line
  pub begins : BeginTranscript oldest before
  pub stuck : (next more : List ℕ) → rest ≡ next ++ more → BeginTranscript oldest (before ++ next ∷ []) → ⊥
  pub none : (history : List Entry) → IsTextOf oldest bytes history → ⊥

-- the first line and those of these entries are read, and the rest is not yet
pub record IsReadTo (oldest version pool : ℕ) (bytes : List ℕ) (entries : List Entry) (rest : List ℕ) : Type 0 where
  pub head : IsHead oldest version pool
  pub printable : ArePrintable 1 entries
  pub fits : AllByRecursion FitsFields entries
  pub cut : bytes ≡ start_line version pool ++ (entry_lines version 1 entries ++ rest)

-- how many buffers are listed in what was asked
abbrev pub listed_by : Ask → ℕ
listed_by (Sync port back) = length back
listed_by (Finish port bufs chain) = length bufs
listed_by (Get port back) = length back
listed_by _ = 0

abbrev pub listed_in : Entry → ℕ
listed_in entry = listed_by entry.ask

abbrev pub BlamesText : ℕ → List ℕ → TextFault → Type 0
BlamesText oldest bytes (BadLine line) = IsFirstBad oldest bytes line
BlamesText oldest bytes NoMemory = Unit {0}
