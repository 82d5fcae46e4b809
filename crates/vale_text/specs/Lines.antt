-- How the lines of a transcript are judged, each by itself.
use Rattle.std.specs.Prelude.{ℕ, Bool, false, ◌&&◌, ◌==◌, ◌≡◌, nat_le, if◌then◌else◌, List, [], ◌∷◌, ◌++◌, drop, bytes_eq, Option, Some, None}
use Rattle.std.specs.List.{AllByRecursion}
use Rattle.nm_types.specs.Limits.{most_pool}
use Rattle.vale_entry.specs.declared.entry.Entry.{Entry}
use Rattle.vale_entry.specs.Transcript.{newest, start_line, entry_line, end_line, is_printable}
use Rattle.vale_fields.specs.Fields.{short_of, front_by, back_by, mark_in}
use Rattle.vale_fields.specs.Lists.{words_of}
use Rattle.vale_fields.specs.Rows.{entry_of}

abbrev pub is_line_feed : ℕ → Bool
is_line_feed b = b == 10

-- a line feed ends a line, and stands nowhere else in it
pub record IsLine (line : List ℕ) : Type 0 where
  pub text : List ℕ
  pub is : line ≡ text ++ 10 ∷ []
  pub free : AllByRecursion (λ b. is_line_feed b ≡ false) text

-- a first line, and what stands behind it
pub record IsCut (bytes first after : List ℕ) : Type 0 where
  pub is : bytes ≡ first ++ after
  pub line : IsLine first

abbrev pub IsUncut : List ℕ → Type 0
IsUncut bytes = AllByRecursion (λ b. is_line_feed b ≡ false) bytes

-- what stands before a mark, and what behind it
abbrev pub front_of : ℕ → List ℕ → List ℕ
front_of mark text = front_by (mark_in mark text) text

abbrev pub back_of : ℕ → List ℕ → List ℕ
back_of mark text = back_by (mark_in mark text) text

-- the version that a first line tells, and the pool, which stands behind it and the word `pool`
unfoldable pub version_in : List ℕ → ℕ
version_in line = short_of (front_of 32 (drop 5 line))

unfoldable pub pool_in : List ℕ → ℕ
pool_in line = short_of (front_of 10 (drop 5 (back_of 32 (drop 5 line))))

-- the greatest pool of a text of the first version
abbrev pub first_most_pool : ℕ
first_most_pool = 65536

-- the greatest pool of a text of this version
abbrev pub most_pool_of : ℕ → ℕ
most_pool_of version = if version == 1 then first_most_pool else most_pool

-- a version from the oldest one that is read up to the newest
abbrev pub is_version : ℕ → ℕ → Bool
is_version oldest version = nat_le oldest version && nat_le version newest

abbrev pub is_pool : ℕ → ℕ → Bool
is_pool version pool = nat_le 1 pool && nat_le pool (most_pool_of version)

abbrev pub is_start : ℕ → List ℕ → Bool
is_start oldest line =
    is_version oldest (version_in line)
    && (is_pool (version_in line) (pool_in line) && bytes_eq (start_line (version_in line) (pool_in line)) line)

-- the free buffers that a last line tells: they stand behind the count and the word `free`
unfoldable pub free_in : List ℕ → ℕ
free_in line = short_of (front_of 10 (drop 5 (back_of 32 (drop 4 line))))

abbrev pub is_end : ℕ → List ℕ → Bool
is_end count line = bytes_eq (end_line count (free_in line)) line

abbrev pub kept_if : ℕ → ℕ → List ℕ → Option Entry → Option Entry
kept_if version number line None = None
kept_if version number line (Some entry) =
    if is_printable number entry.session.0 entry.ask entry.reply && bytes_eq (entry_line version number entry) line then Some entry else None

-- the entry whose line this is in a text of this version
abbrev pub entry_in : ℕ → ℕ → List ℕ → Option Entry
entry_in version number line = kept_if version number line (entry_of number (words_of (front_of 10 line)))
