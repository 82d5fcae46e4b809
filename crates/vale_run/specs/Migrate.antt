-- The words `migrate FILE`, and what a run of them promises: a text of version 1 or 2 is written as one of
-- the version that is written, version 2.
use Rattle.std.specs.Prelude.{ℕ, ◌≡◌, ◌+◌, ◌<◌, ◌≤◌, ◌⊎◌, List, length, codes, string_bytes, Option, IfSome, IsSomeAnd}
use Rattle.nm_io.specs.Held.{grown, GrowsByPrefix}
use Rattle.nm_io.specs.Counts.{Rose}
use Rattle.vale_captures.specs.Inputs.{HasContents}
use Rattle.vale_entry.specs.declared.entry.Entry.{Entry}
use Rattle.vale_entry.specs.Transcript.{newest, text_of}
use Rattle.vale_text.specs.Reading.{IsTextWith, IsFirstBad}
use Rattle.nm_types.specs.Limits.{most_text}
use Rattle.vale_run.specs.Run.{Io, HasRisen, WritesNothing, word_behind}
use Rattle.vale_run.specs.declared.status.What.TheVariants.{Text}
use Rattle.vale_run.specs.declared.status.Status.{Status}
use Rattle.vale_run.specs.declared.status.Status.TheVariants.{Done, ReadFault, WriteFault, Over, NoMemory, BadText}

-- the words `migrate FILE`, of which this gives the file's name
abbrev pub text_name : List (List ℕ) → Option (List ℕ)
text_name words = word_behind (codes "migrate") words

-- these bytes are a text of version 1 or 2, which tells all this
pub record Migrated (bytes : List ℕ) : Type 0 where
  pub version : ℕ
  pub pool : ℕ
  pub entries : List Entry
  pub free : ℕ
  pub is : IsTextWith 1 bytes version pool entries free

-- the same in the version that is written
abbrev pub new_text : {bytes : List ℕ} → Migrated bytes → List ℕ
new_text m = text_of newest m.pool m.entries m.free

-- what is written of a file that has these bytes; `faults` are the output's before and after
abbrev pub TextEnds : List ℕ → List ℕ → ℕ × ℕ → Option (List ℕ) → Option (List ℕ) → Status → Type 0
TextEnds bytes name faults old new Done = (m : Migrated bytes) × (new ≡ grown old (new_text m))
TextEnds bytes name faults old new WriteFault =
    (m : Migrated bytes) × (GrowsByPrefix old new (new_text m) × Rose faults.0 faults.1)
TextEnds bytes name faults old new NoMemory =
    (new ≡ old) ⊎ ((m : Migrated bytes) × GrowsByPrefix old new (new_text m))
TextEnds bytes name faults old new (BadText which line) =
    (string_bytes which ≡ name) × (IsFirstBad 1 bytes line × (new ≡ old))
TextEnds bytes name faults old new _ = ⊥

-- a file of this name was read, and this was written of it
pub record EndsText (io : Io) (name : List ℕ) (status : Status) : Type 0 where
  pub text : List ℕ
  pub told : HasContents io.files name text
  pub short : length text ≤ most_text
  pub ends : TextEnds text name io.writes io.holds io.new_holds status
  pub shelf : io.new_files ≡ io.files

-- The file of this name was migrated, and this is how that ended.
abbrev pub MigrateEnds : Io → List ℕ → Status → Type 0
MigrateEnds io name (ReadFault which) = (string_bytes which ≡ name) × (HasRisen (io.reads name) × WritesNothing io)
MigrateEnds io name (Over Text count limit) =
    (count ≡ most_text + 1) × ((limit ≡ most_text) × (IfSome io.files (λ all. IsSomeAnd (all name) (λ text. most_text < length text)) × WritesNothing io))
MigrateEnds io name NoMemory = WritesNothing io ⊎ EndsText io name NoMemory
MigrateEnds io name status = EndsText io name status
