-- How the play of a script ends.
use Rattle.std.specs.Prelude.{ℕ, ◌≡◌, List, take}
use Rattle.std.specs.List.{AllByRecursion}
use Rattle.nm_turn.specs.Numbered.{numbered}
use Rattle.nm_turn.specs.Shares.{IsWhole}
use Rattle.nm_types.specs.declared.fault.StepFault.{StepFault}
use Rattle.nm_types.specs.declared.fault.StepFault.TheVariants.{RecordFull, NoMemory}
use Rattle.vale_entry.specs.declared.entry.Ask.{Ask}
use Rattle.vale_entry.specs.declared.entry.Entry.{Entry}
use Rattle.vale_book.specs.Recorded.{IsRefusal}
use Rattle.vale_fabric.specs.declared.kept.Fixed.{Fixed}
use Rattle.vale_fabric.specs.Fabrics.{Knowing, record_in}
use Rattle.vale_script.specs.Script.{Program}
use Rattle.vale_captures.specs.Outputs.{OutputFile, IsWritable}
use Rattle.vale_replay.specs.Replay.{Cast, HasPlayed}
use Rattle.vale_replay.specs.Stops.{HasStopped as HaveStopped}
use Rattle.vale_replay.specs.Tasks.{Captures}
use Rattle.vale_act.specs.Outputs.{outputs_of}

-- a pass that has the whole, and all entries as its own
pub record HasWhole (v : Knowing) : Type 0 where
  pub whole : IsWhole v.part
  pub mine : v.mine ≡ numbered 1 v.seen

-- the script was played by this history, and has saved these files
pub record PlaysScript (program : Program) (captures : Captures) (history : List Entry) (outputs : List OutputFile) : Type 0 where
  pub cast : Cast
  pub played : HasPlayed program captures history cast
  pub saved : outputs ≡ outputs_of program history cast.users
  pub writable : AllByRecursion IsWritable outputs

-- or users have stopped in it: the one of the smallest number at this call, for which the record had no
-- room in what stands after so many entries
pub record StopsScript (fixed : Fixed) (program : Program) (captures : Captures) (history : List Entry) (fault : StepFault) : Type 0 where
  pub count : ℕ
  pub user : ℕ
  pub call : Ask
  pub stopped : HaveStopped program captures history count user call
  pub refusal : IsRefusal (record_in fixed (take count history)) call fault

-- want of memory may stop it anywhere
abbrev pub IsStoppedBy : Fixed → Program → Captures → List Entry → StepFault → Type 0
IsStoppedBy fixed program captures history (RecordFull what used want) = StopsScript fixed program captures history (RecordFull what used want)
IsStoppedBy fixed program captures history NoMemory = Unit {0}
