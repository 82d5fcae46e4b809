-- What the parts of a run promise one another. A reader of the run's own promise may pass over this.
use Rattle.std.specs.Prelude.{ℕ, true, false, ◌≡◌, ◌+◌, ◌<◌, ◌≤◌, ◌^◌, List, length, map, slice_get, string_bytes, Option, Some, Result, Ok, IfOk, IfErr}
use Rattle.std.specs.Str.Lines.{lines}
use Rattle.nm_io.specs.Counts.{Rose}
use Rattle.nm_io.specs.Files.{Files}
use Rattle.nm_io.specs.Held.{grown, GrowsByPrefix}
use Rattle.nm_types.specs.Limits.{most_capture_bytes, most_script_lines}
use Rattle.nm_types.specs.declared.limits.Limits.{Limits}
use Rattle.nm_types.specs.declared.fault.Part.TheVariants as parts
use Rattle.nm_types.specs.declared.fault.StepFault.{StepFault}
use Rattle.nm_types.specs.declared.fault.StepFault.TheVariants.{RecordFull}
use Rattle.nm_types.specs.declared.fault.StepFault.TheVariants as faults
use Rattle.pcap_io.specs.declared.fault.PcapFault.{PcapFault}
use Rattle.vale_entry.specs.World.{free_count}
use Rattle.vale_entry.specs.declared.entry.Entry.{Entry}
use Rattle.vale_entry.specs.Transcript.{newest, text_of}
use Rattle.vale_book.specs.Recorded.{Recorded, standing, HadRoom}
use Rattle.vale_fabric.specs.declared.kept.Fixed.{Fixed}
use Rattle.vale_fabric.specs.Fabrics.{record_in}
use Rattle.vale_script.specs.Grammar.{script_of}
use Rattle.vale_script.specs.Script.{Program}
use Rattle.vale_captures.specs.declared.inputs.InputFault.{InputFault}
use Rattle.vale_captures.specs.declared.inputs.InputFault.TheVariants as inputs
use Rattle.vale_captures.specs.Inputs.{InputFile, frames_of}
use Rattle.vale_captures.specs.Outputs.{OutputFile, all_appended, StopsAtOutput}
use Rattle.vale_act.specs.Plays.{PlaysScript, IsStoppedBy}
use Rattle.vale_run.specs.Run.{Io, WritesWhole, WritesPart}
use Rattle.vale_run.specs.declared.status.What.TheVariants.{Inputs, Entries, Bytes}
use Rattle.vale_run.specs.declared.status.Status.{Status}
use Rattle.vale_run.specs.declared.status.Status.TheVariants.{Done, ReadFault, WriteFault, BadPcap, Over, NoMemory, BadText}
use Rattle.vale_run.specs.Status.{offset_of}

-- what is used and wanted together is a number of 64 bits
abbrev pub IsFewUsed : StepFault → Type 0
IsFewUsed (RecordFull what used want) = used + want < 2 ^ 64
IsFewUsed faults.NoMemory = Unit {0}

-- the status of a run that met a fault of the record
abbrev pub stopped : Limits → StepFault → Status
stopped limits (RecordFull parts.Entries used want) = Over Entries (used + want) limits.entries
stopped limits (RecordFull parts.Bytes used want) = Over Bytes (used + want) limits.bytes
stopped limits faults.NoMemory = NoMemory

-- a file of this name was not read, or its name could not be kept for want of memory
abbrev pub NamesFile : List ℕ → Status → Type 0
NamesFile name (ReadFault which) = string_bytes which ≡ name
NamesFile name NoMemory = Unit {0}
NamesFile name _ = ⊥

-- it is no capture, for this cause
abbrev pub BlamesFile : List ℕ → PcapFault → Status → Type 0
BlamesFile name fault (BadPcap which offset cause) = (string_bytes which ≡ name) × ((offset ≡ offset_of cause) × (cause ≡ fault))
BlamesFile name fault NoMemory = Unit {0}
BlamesFile name fault _ = ⊥

-- all captures were saved, or by a failure the first ones and a prefix of the next one
abbrev pub Saves : Option Files → Option Files → List OutputFile → (List ℕ → ℕ × ℕ) → Status → Type 0
Saves old new saved appends Done = new ≡ all_appended old saved
Saves old new saved appends WriteFault = StopsAtOutput old new saved appends true
Saves old new saved appends NoMemory = StopsAtOutput old new saved appends false
Saves old new saved appends _ = ⊥

-- the text was written, and then the captures
abbrev pub Written : List ℕ → List OutputFile → Io → Status → Type 0
Written text saved io Done = WritesWhole text saved io
Written text saved io WriteFault = WritesPart text saved io true
Written text saved io NoMemory = WritesPart text saved io false
Written text saved io _ = ⊥

-- A script was played with its captures over a book of its own, up to its end or to a fault that stops it.
-- All buffers are the pool's again.
pub record IsPlayOf (limits : Limits) (program : Program) (played : List InputFile) (book : Recorded) (ended : Result (List OutputFile) StepFault) : Type 0 where
  pub fixed : Fixed
  pub book_is : record_in fixed book.entries ≡ book
  pub pool : fixed.pool ≡ program.pool
  pub limits_are : fixed.limits ≡ limits
  pub roomy : HadRoom book
  pub few : length book.entries < 2 ^ 32
  pub back : free_count (standing book).world ≡ book.pool
  pub plays : IfOk ended (PlaysScript program (map frames_of played) book.entries)
  pub stops : IfErr ended (IsStoppedBy fixed program (map frames_of played) book.entries)

-- a script of few lines says so
pub record IsSaid (program : Program) : Type 0 where
  pub script : List ℕ
  pub says : script_of script ≡ Ok program
  pub few : length (lines script) ≤ most_script_lines

-- the file is there that was not read, but where memory was wanting
abbrev pub NamesInput : InputFault → ℕ → List (List ℕ) → Type 0
NamesInput inputs.NoMemory at names = Unit {0}
NamesInput fault at names = at < length names

-- how a run ends that did not read the file at this place
abbrev pub BlamesInput : List (List ℕ) → ℕ → InputFault → Status → Type 0
BlamesInput names at inputs.Failed status = (name : List ℕ) → slice_get names at ≡ Some name → NamesFile name status
BlamesInput names at inputs.TooLong status = status ≡ Over Inputs (most_capture_bytes + 1) most_capture_bytes
BlamesInput names at (inputs.BadPcap fault) status = (name : List ℕ) → slice_get names at ≡ Some name → BlamesFile name fault status
BlamesInput names at inputs.NoMemory status = status ≡ NoMemory

-- a file of this name is no text from this line on, or its name could not be kept for want of memory
abbrev pub NamesText : List ℕ → ℕ → Status → Type 0
NamesText name line (BadText which at) = (string_bytes which ≡ name) × (at ≡ line)
NamesText name line NoMemory = Unit {0}
NamesText name line _ = ⊥

-- the text that tells this was written, or by a failure or for want of memory a prefix of it
abbrev pub WroteText : ℕ → List Entry → ℕ → ℕ × ℕ → Option (List ℕ) → Option (List ℕ) → Status → Type 0
WroteText pool entries free faults old new Done = new ≡ grown old (text_of newest pool entries free)
WroteText pool entries free faults old new WriteFault =
    GrowsByPrefix old new (text_of newest pool entries free) × Rose faults.0 faults.1
WroteText pool entries free faults old new NoMemory = GrowsByPrefix old new (text_of newest pool entries free)
WroteText pool entries free faults old new _ = ⊥
