-- Laws of the histories that play a script, as statements.
use Rattle.std.specs.Prelude.{ℕ, ◌≡◌, ◌≤◌, ◌↔◌, ◌⊎◌, List, [], ◌∷◌, ◌++◌, take, Some, None, length, All}
use Rattle.std.specs.List.{AllByRecursion}
use Rattle.vale_entry.specs.declared.entry.Ask.{Ask}
use Rattle.vale_entry.specs.declared.entry.Entry.{Entry}
use Rattle.vale_entry.specs.Laws.{Rise}
use Rattle.vale_entry.specs.Legal.{IsLegal, standing_of, world_of}
use Rattle.vale_script.specs.declared.script.Unit.{Unit as ReadUnit}
use Rattle.vale_script.specs.declared.script.Unit.TheVariants as parts
use Rattle.vale_script.specs.Script.{Program}
use Rattle.nm_types.specs.declared.id.SessionId.{SessionId}
use Rattle.vale_own.specs.Laws.{IsOfOther}
use Rattle.vale_replay.specs.Machine.{Machine, pending_call}
use Rattle.vale_replay.specs.Replay.{Cast, Replays, HasPlayed, Reaches, ReplaysUser, IsUnderWay, ComesTo, entry_made, last_of}
use Rattle.vale_replay.specs.Tasks.{Captures}

-- a script without blocks
abbrev pub IsLine : ReadUnit → Type 0
IsLine (parts.Single line) = Unit {0}
IsLine (parts.Block lines) = ⊥

abbrev pub HasNoBlock : Program → Type 0
HasNoBlock program = AllByRecursion IsLine program.units

-- at most one history plays a script without blocks
abbrev pub PlaysOneHistory : Type 0
PlaysOneHistory =
    (program : Program) (captures : Captures) (history other : List Entry)
    → HasNoBlock program
    → Replays program captures history → Replays program captures other → history ≡ other

-- the history begins with these entries, and the next one is the one that a call makes
pub record BeginsWith (pool : ℕ) (history part : List Entry) (call : Ask) : Type 0 where
  pub entry : Entry
  pub rest : List Entry
  pub joined : history ≡ part ++ entry ∷ rest
  pub made : entry_made (standing_of pool part) call ≡ Some entry

-- what is under way is the beginning of the history that plays, and the call that comes next makes
-- its next entry
abbrev pub UnderWayIsBeginning : Type 0
UnderWayIsBeginning =
    (program : Program) (captures : Captures) (history part : List Entry) (user : ℕ) (call : Ask)
    → HasNoBlock program
    → Replays program captures history → ComesTo program captures part user call
    → BeginsWith program.pool history part call

-- of two histories under way one is the beginning of the other, or they are one and come to one
-- call
abbrev pub UnderWayIsOne : Type 0
UnderWayIsOne =
    (program : Program) (captures : Captures) (part other : List Entry) (user : ℕ) (call : Ask) (next_user : ℕ) (next : Ask)
    → HasNoBlock program
    → ComesTo program captures part user call → ComesTo program captures other next_user next
    → ((part ≡ other) × (call ≡ next)) ⊎ (BeginsWith program.pool part other next ⊎ BeginsWith program.pool other part call)

-- each entry of a history that plays a script, or is under way, is the one that its ask makes
abbrev pub PlayedIsLegal : Type 0
PlayedIsLegal =
    (program : Program) (captures : Captures) (history : List Entry) (nows : Cast)
    → IsUnderWay program captures history nows → IsLegal program.pool history

-- what a history under way began with, up to any of its entries, was under way
abbrev pub PrefixIsUnderWay : Type 0
PrefixIsUnderWay =
    (program : Program) (captures : Captures) (history : List Entry) (nows : Cast) (count : ℕ)
    → IsUnderWay program captures history nows
    → (befores : Cast) × IsUnderWay program captures (take count history) befores

-- a user's entries in two pieces, one after the other
pub record GoBetween (pool : ℕ) (history : List Entry) (before : Machine) (numbers others : List ℕ) (after : Machine) : Type 0 where
  pub between : Machine
  pub front : ReplaysUser pool history before numbers between
  pub back : ReplaysUser pool history between others after

abbrev pub PiecesAreOne : Type 0
PiecesAreOne =
    (pool : ℕ) (history : List Entry) (before : Machine) (numbers others : List ℕ) (after : Machine)
    → Rise 0 (numbers ++ others) (length history)
    → ReplaysUser pool history before (numbers ++ others) after ↔ GoBetween pool history before numbers others after

-- what a user's entries say is read in the history up to the last of them
abbrev pub ReadsToItsLast : Type 0
ReadsToItsLast =
    (pool : ℕ) (history : List Entry) (count : ℕ) (before : Machine) (numbers : List ℕ) (after : Machine)
    → last_of numbers ≤ count
    → ReplaysUser pool history before numbers after ↔ ReplaysUser pool (take count history) before numbers after

-- the state to which a user's entries bring it is one
abbrev pub StatesAreOne : Type 0
StatesAreOne =
    (pool : ℕ) (history : List Entry) (before : Machine) (numbers : List ℕ) (after other : Machine)
    → ReplaysUser pool history before numbers after → ReplaysUser pool history before numbers other
    → after ≡ other

-- entries of others leave the call that a user has pending as it is
abbrev pub OthersChangeNoCall : Type 0
OthersChangeNoCall =
    (pool : ℕ) (past more : List Entry) (user : Machine) (session : SessionId)
    → user.session ≡ Some session → IsLegal pool (past ++ more)
    → All (IsOfOther session.0) more
    → pending_call (world_of pool (past ++ more)) user ≡ pending_call (world_of pool past) user

-- The states of a script's users, with blocks too: an entry's session tells its user.

-- those to which a history that plays the script brings them are one
abbrev pub PlayedStatesAreOne : Type 0
PlayedStatesAreOne =
    (program : Program) (captures : Captures) (history : List Entry) (cast other : Cast)
    → HasPlayed program captures history cast → HasPlayed program captures history other
    → cast ≡ other

-- Those to which a history under way has brought them are one within each unit. What they do
-- without a call may stand on either side of an entry, as a history that ends a unit is at the
-- beginning of the next one too.
abbrev pub ReachedStatesAreOne : Type 0
ReachedStatesAreOne =
    (program : Program) (captures : Captures) (history : List Entry) (nows others : Cast)
    → (one : Reaches program captures history nows) (other : Reaches program captures history others)
    → one.count ≡ other.count → nows ≡ others

-- a history that comes to a call is in one unit, so there the states are one
pub record AreAtOnce (program : Program) (captures : Captures) (history : List Entry) (user : ℕ) (call : Ask) (next_user : ℕ) (next : Ask) (one : ComesTo program captures history user call) (other : ComesTo program captures history next_user next) : Type 0 where
  pub count : one.reached.count ≡ other.reached.count
  pub nows : one.nows ≡ other.nows

abbrev pub CallsAreAtOnce : Type 0
CallsAreAtOnce =
    (program : Program) (captures : Captures) (history : List Entry) (user : ℕ) (call : Ask) (next_user : ℕ) (next : Ask)
    → (one : ComesTo program captures history user call) (other : ComesTo program captures history next_user next)
    → AreAtOnce program captures history user call next_user next one other

-- and a history that plays the script comes to none
abbrev pub PlayedComesToNone : Type 0
PlayedComesToNone =
    (program : Program) (captures : Captures) (history : List Entry) (cast : Cast) (user : ℕ) (call : Ask)
    → HasPlayed program captures history cast → ¬ ComesTo program captures history user call

-- Behind the closing of each user none has a session, so no session is there, and no port.

abbrev pub HasNoSession : Machine → Type 0
HasNoSession user = user.session ≡ None

pub record HaveLeft (pool : ℕ) (history : List Entry) (users : List Machine) : Type 0 where
  pub each : AllByRecursion HasNoSession users
  pub no_session : (world_of pool history).sessions ≡ []
  pub no_port : (world_of pool history).ports ≡ []

abbrev pub UsersLeave : Type 0
UsersLeave =
    (program : Program) (captures : Captures) (history : List Entry) (cast : Cast)
    → HasPlayed program captures history cast → HaveLeft program.pool history cast.users
