-- When the record is full: where a script has no block, one history alone tells it.
use Rattle.std.specs.Prelude.{ℕ, ◌≡◌, ◌+◌, ◌⊎◌, List, map, IsSome}
use Rattle.nm_types.specs.declared.fault.Part.{Part}
use Rattle.nm_types.specs.declared.fault.Part.TheVariants as parts
use Rattle.nm_types.specs.declared.fault.StepFault.TheVariants.{RecordFull}
use Rattle.nm_types.specs.declared.limits.Limits.{Limits}
use Rattle.vale_entry.specs.declared.entry.Ask.{Ask}
use Rattle.vale_entry.specs.declared.entry.Entry.{Entry}
use Rattle.vale_own.specs.Recorded.{HadRoom, IsRefusal}
use Rattle.vale_script.specs.Script.{Program}
use Rattle.vale_captures.specs.Inputs.{InputFile, frames_of}
use Rattle.vale_replay.specs.Laws.{HasNoBlock}
use Rattle.vale_replay.specs.Replay.{ComesTo}
use Rattle.vale_run.specs.Run.{Io, IsReady, Ends}
use Rattle.vale_run.specs.declared.status.What.TheVariants.{Entries, Bytes}
use Rattle.vale_run.specs.declared.status.Status.{Status}
use Rattle.vale_run.specs.declared.status.Status.TheVariants.{ReadFault, Over, NoMemory}

-- The shelf tells its files, and of this name has a script without blocks that is accepted, with the
-- captures that it plays, all within the limits. Its history begins with these entries, each of which had
-- room, and the call that comes next has none: so much is used, and so much wanted.
pub record IsFullAt (limits : Limits) (io : Io) (name : List ℕ) (part : Part) (count : ℕ) : Type 0 where
  pub told : IsSome io.files
  pub program : Program
  pub played : List InputFile
  pub ready : IsReady io.files name program played
  pub no_block : HasNoBlock program
  pub entries : List Entry
  pub region : ℕ
  pub roomy : HadRoom (record { pool = program.pool; region = region; limits = limits; entries = entries })
  pub user : ℕ
  pub call : Ask
  pub comes : ComesTo program (map frames_of played) entries user call
  pub used : ℕ
  pub want : ℕ
  pub refused : IsRefusal (record { pool = program.pool; region = region; limits = limits; entries = entries }) call (RecordFull part used want)
  pub counted : count ≡ used + want

abbrev pub full_status : Limits → Part → ℕ → Status
full_status limits parts.Entries count = Over Entries count limits.entries
full_status limits parts.Bytes count = Over Bytes count limits.bytes

-- a file that was not read, and want of memory, come before it
abbrev pub ComesBefore : Status → Type 0
ComesBefore (ReadFault which) = Unit {0}
ComesBefore NoMemory = Unit {0}
ComesBefore _ = ⊥

-- Then the run ends by saying so, with this count, unless a file was not read or memory was wanting: it is
-- never done, and no other record is told full.
abbrev pub FullIsTold : Type 0
FullIsTold =
    (limits : Limits) (io : Io) (name : List ℕ) (part : Part) (count : ℕ) (status : Status)
    → IsFullAt limits io name part count → Ends limits io name status
    → (status ≡ full_status limits part count) ⊎ ComesBefore status
