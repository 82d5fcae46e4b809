-- Where a user of a block stops: there is no room for the entry of its call. The others go on to the
-- block's end, and of the users that stop the one of the smallest number counts.
use Rattle.std.specs.Prelude.{ℕ, true, ◌≡◌, ◌<◌, ◌≤◌, List, ◌++◌, length, take, slice_get, Some}
use Rattle.std.specs.List.{list_any, AllByRecursion}
use Rattle.vale_entry.specs.declared.entry.Ask.{Ask}
use Rattle.vale_entry.specs.declared.entry.Entry.{Entry}
use Rattle.vale_entry.specs.Legal.{world_of}
use Rattle.vale_script.specs.Script.{Program}
use Rattle.vale_replay.specs.Machine.{Machine, next_call}
use Rattle.vale_replay.specs.Replay.{Cast, UnitShare, ScriptUnit, EachShare, ReplaysShare, AreSplit, ComesTo, HasCaptures, cast_of, is_share_of, last_of, units_of}
use Rattle.vale_replay.specs.Joined.{PlaysShare, IsWithin, TurnsOfUnits, lists_in}
use Rattle.vale_replay.specs.Tasks.{Captures}

-- a user comes to this call in what stands after so many entries, and has no entry behind them
pub record StopsUser (pool : ℕ) (history : List Entry) (count : ℕ) (call : Ask) (numbers : List ℕ) (now : Machine) : Type 0 where
  pub seen : last_of numbers ≤ count
  pub called : next_call (world_of pool (take count history)) now ≡ Some call

-- a user that this one's stop leaves alone: where its number is smaller it plays its lines
abbrev pub PlaysIfSmaller : ℕ → List Entry → ℕ → UnitShare → Machine → List ℕ → Machine → Type 0
PlaysIfSmaller pool history user share before numbers after =
    share.user < user → PlaysShare pool history share before numbers after

-- what the users of a unit promise in which this user stops: each one's entries are its own calls
pub record PlaysOrStops (pool : ℕ) (history : List Entry) (count user : ℕ) (call : Ask) (share : UnitShare) (before : Machine) (numbers : List ℕ) (after : Machine) : Type 0 where
  pub replays : ReplaysShare pool history share before numbers after
  pub smaller : PlaysIfSmaller pool history user share before numbers after
  pub stops : share.user ≡ user → StopsUser pool history count call numbers after

-- The users of a script play some of its units, and in the next one, which has the entries up to
-- some last one, this user stops after so many entries. The numbers of all of them are all numbers
-- up to that last one, each once. What follows a stop is left free: how far users of a larger number
-- go on in the unit, and the entries behind that last one, with which a run closes its sessions.
pub record HasStopped (program : Program) (captures : Captures) (history : List Entry) (count user : ℕ) (call : Ask) : Type 0 where
  pub files : HasCaptures program captures
  pub done : ℕ
  pub lists : List (List (List ℕ))
  pub cast : Cast
  pub first : ℕ
  pub turns : TurnsOfUnits program.pool history (cast_of program) 0 (take done (units_of program captures)) lists cast first
  pub unit : ScriptUnit
  pub there : slice_get (units_of program captures) done ≡ Some unit
  pub of_unit : list_any (is_share_of user) unit ≡ true
  pub last : ℕ
  pub unit_lists : List (List ℕ)
  pub afters : List Machine
  pub works : EachShare (PlaysOrStops program.pool history count user call) cast unit unit_lists afters
  pub inside : AllByRecursion (AllByRecursion (IsWithin first last)) unit_lists
  pub split : AreSplit 0 last (lists_in lists ++ unit_lists)
  pub forward : first ≤ count
  pub seen : count ≤ last
  pub within : last ≤ length history

-- the history comes to this call of the user after so many entries, and each user of the unit with
-- a smaller number has played its lines in it
pub record StopsAt (program : Program) (captures : Captures) (history : List Entry) (count user : ℕ) (call : Ask) : Type 0 where
  pub comes : ComesTo program captures (take count history) user call
  pub lists : List (List ℕ)
  pub afters : List Machine
  pub smaller : EachShare (PlaysIfSmaller program.pool history user) comes.reached.cast comes.reached.unit lists afters

abbrev pub UsersStop : Type 0
UsersStop =
    (program : Program) (captures : Captures) (history : List Entry) (count user : ℕ) (call : Ask)
    → HasStopped program captures history count user call
    → StopsAt program captures history count user call
