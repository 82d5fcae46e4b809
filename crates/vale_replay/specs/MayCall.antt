-- Each call to which a user comes is one that its session may make.
use Rattle.std.specs.Prelude.{ℕ, true, false, ◌≡◌, List, [], ◌∷◌, Option, Some, None}
use Rattle.std.specs.List.{AllByRecursion}
use Rattle.nm_types.specs.Buffers.{IsPoolSize}
use Rattle.nm_types.specs.Names.{is_name, is_monitor_name}
use Rattle.nm_types.specs.OwnPorts.{OwnPort, OwnRing}
use Rattle.nm_types.specs.declared.id.SessionId.{SessionId}
use Rattle.vale_entry.specs.declared.entry.Ask.{Ask}
use Rattle.vale_entry.specs.declared.entry.Ask.TheVariants.{Enter}
use Rattle.vale_entry.specs.declared.entry.Entry.{Entry}
use Rattle.vale_entry.specs.Legal.{fits_u32}
use Rattle.vale_own.specs.SideAsks.{HasFields, MayAsk}
use Rattle.vale_script.specs.Script.{Program}
use Rattle.vale_script.specs.Sound.{IsSound}
use Rattle.vale_replay.specs.Machine.{Machine}
use Rattle.vale_replay.specs.Replay.{Cast, ComesTo, IsUnderWay}
use Rattle.vale_replay.specs.Tasks.{Captures, Task, OpenPort, WatchPort, Depart}

-- What a machine's definitions leave open, since they speak of numbers of any size: the positions and
-- slots of its rings fit their fields,
abbrev pub HasFieldsIf : Option OwnRing → Type 0
HasFieldsIf None = Unit {0}
HasFieldsIf (Some r) = HasFields r

pub record PortFits (p : OwnPort) : Type 0 where
  pub tx : HasFieldsIf p.tx
  pub rx : HasFields p.rx

-- and so do the words of its next task, as the rules of a script ask of its lines: a port is opened by
-- a name, and a monitor's port watches one that is none
pub record OpensRight (name : List ℕ) (tx rx extra : ℕ) : Type 0 where
  pub named : is_name name ≡ true
  pub tx_fits : fits_u32 tx ≡ true
  pub rx_fits : fits_u32 rx ≡ true
  pub extra_fits : fits_u32 extra ≡ true

pub record WatchesRight (monitor target : List ℕ) : Type 0 where
  pub by_monitor : is_monitor_name monitor ≡ true
  pub named : is_name target ≡ true
  pub no_monitor : is_monitor_name target ≡ false

abbrev pub TaskFits : Task → Type 0
TaskFits (OpenPort name tx rx extra) = OpensRight name tx rx extra
TaskFits (WatchPort monitor target sides) = WatchesRight monitor target
TaskFits _ = Unit {0}

abbrev pub FirstFits : List Task → Type 0
FirstFits [] = Unit {0}
FirstFits (task ∷ tasks) = TaskFits task

-- a user leaves once it has closed its ports
abbrev pub LeavesWithout : List OwnPort → List Task → Type 0
LeavesWithout ports (Depart ∷ tasks) = ports ≡ []
LeavesWithout ports _ = Unit {0}

pub record HasFit (user : Machine) : Type 0 where
  pub ports : AllByRecursion PortFits user.own.ports
  pub task : FirstFits user.tasks
  pub leaves : LeavesWithout user.own.ports user.tasks

-- The call is one that the user's session may make. A user without a session comes as one.
abbrev pub MayCall : ℕ → List Entry → Machine → Option SessionId → Ask → Type 0
MayCall pool history user None call = call ≡ Enter user.number
MayCall pool history user (Some session) call = MayAsk pool history session.0 call

-- So it is wherever a history comes to a call: the user's side is its session's, so what it pushes it
-- holds, what it gives back it has, and nothing is asked before what is owed is settled.
abbrev pub CallsMayBeMade : Type 0
CallsMayBeMade =
    (program : Program) (captures : Captures) (history : List Entry) (user : ℕ) (call : Ask)
    → IsPoolSize program.pool
    → (comes : ComesTo program captures history user call)
    → HasFit comes.now → MayCall program.pool history comes.now comes.now.session call

-- What the rules of a script ask of its lines is enough: so each user of an accepted script fits,
-- wherever a history is under way,
abbrev pub UsersFit : Type 0
UsersFit =
    (program : Program) (captures : Captures) (history : List Entry) (nows : Cast)
    → IsSound program → IsUnderWay program captures history nows
    → AllByRecursion HasFit nows.users

-- and each call to which a history of an accepted script comes may be made.
abbrev pub AcceptedCallsMayBeMade : Type 0
AcceptedCallsMayBeMade =
    (program : Program) (captures : Captures) (history : List Entry) (user : ℕ) (call : Ask)
    → IsSound program
    → (comes : ComesTo program captures history user call)
    → MayCall program.pool history comes.now comes.now.session call
