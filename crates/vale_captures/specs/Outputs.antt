-- The captures that a script saves, as they are written.
use Rattle.std.specs.Prelude.{ℕ, Bool, true, false, ◌≡◌, ◌≤◌, ◌⊎◌, List, [], ◌∷◌, length, take, slice_get, Option, Some}
use Rattle.std.specs.List.{AllByRecursion}
use Rattle.nm_io.specs.Counts.{Rose}
use Rattle.nm_io.specs.Files.{Files, appended_told, AppendsPrefix}
use Rattle.pcap_io.specs.Limits.{most_captured}
use Rattle.pcap_io.specs.Written.{capture_text}
use Rattle.pcap_io.specs.declared.record.Record.{Record}
use Rattle.vale_captures.specs.declared.outputs.SaveFault.{SaveFault}
use Rattle.vale_captures.specs.declared.outputs.SaveFault.TheVariants.{Failed, NoMemory}

-- a file by its name, with the records that go into it
pub record OutputFile : Type 0 where
  pub file : List ℕ
  pub records : List Record

-- the bytes that go into it
abbrev pub text_of : OutputFile → List ℕ
text_of output = capture_text output.records

-- each record can be written
abbrev pub IsShortRecord : Record → Type 0
IsShortRecord r = length r.bytes ≤ most_captured

abbrev pub IsWritable : OutputFile → Type 0
IsWritable output = AllByRecursion IsShortRecord output.records

-- what stood on a page stands there still, or went to the end of a file
abbrev pub IsFlushed : Option Files → Option Files → List ℕ → List ℕ → List ℕ → Type 0
IsFlushed old new name was left = ((new ≡ old) × (left ≡ was)) ⊎ ((new ≡ appended_told old name was) × (left ≡ []))

-- the files with these captures at their ends, one after another
abbrev pub all_appended : Option Files → List OutputFile → Option Files
all_appended files [] = files
all_appended files (output ∷ outputs) = all_appended (appended_told files output.file (text_of output)) outputs

-- the captures before one were written whole, and of that one a prefix
pub record StopsAtOutput (old new : Option Files) (outputs : List OutputFile) (appends : List ℕ → ℕ × ℕ) (failed : Bool) : Type 0 where
  pub at : ℕ
  pub output : OutputFile
  pub there : slice_get outputs at ≡ Some output
  pub part : AppendsPrefix (all_appended old (take at outputs)) new output.file (text_of output)
  pub rose : failed ≡ true → Rose (appends output.file).0 (appends output.file).1

abbrev pub has_failed : SaveFault → Bool
has_failed Failed = true
has_failed NoMemory = false

-- why not all captures were written; `appends` are the shelf's counts of append faults, before and now
abbrev pub StopsWriting : Option Files → Option Files → List OutputFile → (List ℕ → ℕ × ℕ) → SaveFault → Type 0
StopsWriting old new outputs appends fault = StopsAtOutput old new outputs appends (has_failed fault)
