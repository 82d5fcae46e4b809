-- What is asked for, and how a run ends that shows it.
use Rattle.std.specs.Prelude.{ℕ, Bool, true, false, ◌≡◌, ◌<◌, ◌≤◌, if◌then◌else◌, List, [], ◌∷◌, length, codes, string_bytes, Option, Some, None, option_map, IfSome, IsSomeAnd, bytes_eq}
use Rattle.nm_io.specs.Counts.{Rose}
use Rattle.nm_io.specs.Files.{Files}
use Rattle.nm_io.specs.Held.{grown, GrowsByPrefix}
use Rattle.nm_types.specs.Limits.{most_text}
use Rattle.vale_entry.specs.declared.entry.Entry.{Entry}
use Rattle.vale_words.specs.Words.{number_in}
use Rattle.vale_text.specs.Reading.{IsTextWith, IsFirstBad}
use Rattle.vale_show.specs.declared.status.Status.{Status}
use Rattle.vale_show.specs.declared.status.Status.TheVariants.{Done, Usage, ReadFault, WriteFault, TooLong, NoMemory, BadText}
use Rattle.vale_show.specs.declared.views.View.{View}
use Rattle.vale_show.specs.declared.views.View.TheVariants.{Summary, Ports, Frame}
use Rattle.vale_show.specs.Summary.{summary_text}
use Rattle.vale_show.specs.Table.{table_text}
use Rattle.vale_show.specs.Frame.{frame_text}

unfoldable pub help_text : List ℕ
help_text = codes "usage: vale_show FILE [ports | frame ENTRY PLACE]\n\n  FILE        writes a summary of the transcript FILE, of version 1 or 2; - is standard input\n  FILE ports  writes a table of its ports\n  FILE frame ENTRY PLACE\n              writes what became of a frame of an entry, both counted from 1\n"

-- the word `--help` asks for this text
abbrev pub asks_help : List (List ℕ) → Bool
asks_help (word ∷ []) = bytes_eq word (codes "--help")
asks_help _ = false

-- the greatest number of 32 bits
abbrev pub most_number : ℕ
most_number = 4294967295

abbrev pub frame_asked : Option ℕ → Option ℕ → Option View
frame_asked None place = None
frame_asked (Some entry) None = None
frame_asked (Some entry) (Some place) = Some (Frame entry place)

-- the words `FILE` ask for the summary, `FILE ports` for the table, and `FILE frame ENTRY PLACE` for a
-- frame, both numbers of 1 to 20 decimal digits and 32 bits
abbrev pub asked_for : List (List ℕ) → Option (List ℕ × View)
asked_for (name ∷ []) = Some (name, Summary)
asked_for (name ∷ word ∷ []) = if bytes_eq word (codes "ports") then Some (name, Ports) else None
asked_for (name ∷ word ∷ entry ∷ place ∷ []) =
    if bytes_eq word (codes "frame") then
    option_map (λ view. (name, view))
    (frame_asked (number_in 0 most_number entry) (number_in 0 most_number place))
    else None
asked_for _ = None

-- what is shown of what a transcript tells
abbrev pub view_text : View → ℕ → ℕ → List Entry → ℕ → List ℕ
view_text Summary version pool history free = summary_text version pool history free
view_text Ports version pool history free = table_text history
view_text (Frame entry place) version pool history free = frame_text history entry place

-- these bytes are a transcript of version 1 or 2, which tells all this
pub record Transcript (bytes : List ℕ) : Type 0 where
  pub version : ℕ
  pub pool : ℕ
  pub entries : List Entry
  pub free : ℕ
  pub is : IsTextWith 1 bytes version pool entries free

abbrev pub shown : View → {bytes : List ℕ} → Transcript bytes → List ℕ
shown view t = view_text view t.version t.pool t.entries t.free

-- a text was written whole, or by a failure a prefix of it, or there was no memory for it; `faults`
-- are the output's before and after
abbrev pub WroteText : List ℕ → ℕ × ℕ → Option (List ℕ) → Option (List ℕ) → Status → Type 0
WroteText text faults old new Done = new ≡ grown old text
WroteText text faults old new WriteFault = GrowsByPrefix old new text × Rose faults.0 faults.1
WroteText text faults old new NoMemory = new ≡ old
WroteText text faults old new _ = ⊥

abbrev pub NamesFile : List ℕ → Status → Type 0
NamesFile name (ReadFault which) = string_bytes which ≡ name
NamesFile name NoMemory = Unit {0}
NamesFile name _ = ⊥

abbrev pub NamesText : List ℕ → ℕ → Status → Type 0
NamesText name line (BadText which at) = (string_bytes which ≡ name) × (at ≡ line)
NamesText name line NoMemory = Unit {0}
NamesText name line _ = ⊥

-- what is written of a file of this name that has these bytes
abbrev pub EndsText :
    View → List ℕ → List ℕ → ℕ × ℕ → Option (List ℕ) → Option (List ℕ) → Status → Type 0
EndsText view bytes name faults old new Done = (t : Transcript bytes) × (new ≡ grown old (shown view t))
EndsText view bytes name faults old new WriteFault =
    (t : Transcript bytes) × (GrowsByPrefix old new (shown view t) × Rose faults.0 faults.1)
EndsText view bytes name faults old new NoMemory = new ≡ old
EndsText view bytes name faults old new (BadText which line) =
    (string_bytes which ≡ name) × (IsFirstBad 1 bytes line × (new ≡ old))
EndsText view bytes name faults old new _ = ⊥

-- a file of this name was read, and this was written of it
pub record EndsFile (view : View) (files : Option Files) (name : List ℕ) (faults : ℕ × ℕ)
    (old new : Option (List ℕ)) (status : Status) : Type 0 where
  pub bytes : List ℕ
  pub told : IfSome files (λ all. all name ≡ Some bytes)
  pub short : length bytes ≤ most_text
  pub ends : EndsText view bytes name faults old new status

-- How it ends to show the file of this name; `reads` are its faults before and after.
abbrev pub Ends :
    View → Option Files → List ℕ → ℕ × ℕ → ℕ × ℕ → Option (List ℕ) → Option (List ℕ) → Status → Type 0
Ends view files name reads faults old new (ReadFault which) =
    (string_bytes which ≡ name) × (Rose reads.0 reads.1 × (new ≡ old))
Ends view files name reads faults old new TooLong =
    IfSome files (λ all. IsSomeAnd (all name) (λ bytes. most_text < length bytes)) × (new ≡ old)
Ends view files name reads faults old new NoMemory = new ≡ old
Ends view files name reads faults old new status =
    EndsFile view files name faults old new status

-- How a run ends: where no help is asked for and no file, the words are wrong, and nothing is written.
abbrev pub Shows :
    Bool → Option (List ℕ × View) → Option Files → (List ℕ → ℕ × ℕ) → ℕ × ℕ → Option (List ℕ) → Option (List ℕ) → Status → Type 0
Shows true asked files reads faults old new status = WroteText help_text faults old new status
Shows false None files reads faults old new status = (status ≡ Usage) × (new ≡ old)
Shows false (Some asked) files reads faults old new status =
    Ends asked.1 files asked.0 (reads asked.0) faults old new status
