-- The users of a script between two of its units, and what a unit makes of them.
use Rattle.std.specs.Prelude.{ℕ, zero, suc, true, false, ◌≡◌, ◌<◌, ◌≤◌, ◌+◌, ◌-◌, List, [], ◌∷◌, ◌++◌, length, map, flat_map, replicate, take, slice_get, slice_set, Option, Some, None, Vec}
use Rattle.std.specs.List.{list_any, AllByRecursion}
use Rattle.std.specs.declared.alloc.Global.{Global}
use mathlib.Core.List.{IsPrefix}
use Rattle.nm_turn.specs.Numbered.{merged, numbered, numbers}
use Rattle.nm_turn.specs.Shares.{AddUp}
use Rattle.nm_turn.specs.Rule.{part_of}
use Rattle.nm_types.specs.declared.fault.StepFault.{StepFault}
use Rattle.nm_types.specs.declared.fault.StepFault.TheVariants.{RecordFull}
use Rattle.nm_types.specs.declared.fault.Part.{Part}
use Rattle.vale_entry.specs.declared.entry.Ask.{Ask}
use Rattle.vale_entry.specs.declared.entry.Ask.TheVariants.{Enter}
use Rattle.vale_entry.specs.declared.entry.Entry.{Entry}
use Rattle.vale_book.specs.Recorded.{IsRefusal}
use Rattle.vale_fabric.specs.declared.fabric.Fabric.{Fabric}
use Rattle.vale_fabric.specs.declared.kept.Fixed.{Fixed}
use Rattle.vale_fabric.specs.Fabrics.{Knowing, fixed_in, record_in}
use Rattle.nm_user.specs.Sessions.{IsThere}
use Rattle.nm_user.specs.Calls.{IsRefused}
use Rattle.nm_user.specs.Leaving.{IsLeft}
use Rattle.vale_script.specs.declared.script.Line.{Line}
use Rattle.vale_script.specs.declared.script.Unit.TheVariants as parts
use Rattle.vale_script.specs.Script.{Program}
use Rattle.vale_replay.specs.Tasks.{Task, Arrive, EndLine, Captures, tasks_of_lines}
use Rattle.vale_replay.specs.Machine.{Machine, Save, closing_tasks, new_machine, resting}
use Rattle.vale_replay.specs.Replay.{Cast, UnitShare, ScriptUnit, EachShare, HasCaptures, HasPlayed, PlaysUser, ReplaysUser, acts_of, cast_after, cast_of, has_line, is_share_of, shares_of, times_among, units_of, user_count}
use Rattle.vale_replay.specs.Joined.{PlaysShare, TurnsOfUnits, IsWithin, lists_in}
use Rattle.vale_replay.specs.Stops.{PlaysOrStops, StopsUser}
use Rattle.vale_replay.specs.Stops.{HasStopped as HaveStopped}
use Rattle.vale_act.specs.declared.seat.Seat.{Seat}
use Rattle.vale_act.specs.declared.seat.Seat.TheVariants.{Away, There, Gone}
use Rattle.vale_player.specs.Laws.{NeedsSession}
use Rattle.vale_player.specs.Players.{PlayerState, Does, HasEntered, IsStill, Stops, machine_of}

-- the user of a seat, of this number, which has nothing to do
abbrev pub IsUserAt : ℕ → ℕ → Seat → Machine → Type 0
IsUserAt pool number Away user = user ≡ new_machine pool number
IsUserAt pool number (There p fault) user = (p.number ≡ number) × (user ≡ machine_of p [])
IsUserAt pool number (Gone saves) user = (user.session ≡ None) × ((user.saves ≡ saves.items) × (user.tasks ≡ []))

-- the users of these seats, numbered from this number on
abbrev pub AreUsersFrom : ℕ → ℕ → List Seat → List Machine → Type 0
AreUsersFrom pool number [] [] = Unit {0}
AreUsersFrom pool number (seat ∷ seats) (user ∷ users) = IsUserAt pool number seat user × AreUsersFrom pool (number + 1) seats users
AreUsersFrom pool number _ _ = ⊥

-- what the pass of a user's session knows, and the main pass with those of all users
abbrev pub knows_at : Seat → List Knowing
knows_at (There p fault) = p.session.knows ∷ []
knows_at _ = []

abbrev pub all_know : Knowing → List Seat → List Knowing
all_know main seats = main ∷ flat_map knows_at seats

-- how often an entry's number stands among the passes' own
abbrev pub times_made : ℕ → List Knowing → ℕ
times_made number passes = times_among number (map (λ (v : Knowing). numbers v.mine) passes)

-- Together they have the whole.
abbrev pub HaveWhole : List Knowing → Type 0
HaveWhole passes = AddUp (map part_of passes)

-- a user's session is on this fabric
abbrev pub IsOn : Fabric → Seat → Type 0
IsOn fabric (There p fault) = (p.session.fabric ≡ fabric) × (p.session.fixed ≡ fixed_in fabric)
IsOn fabric _ = Unit {0}

-- The users have played so many units of a script, up to the last entry that the main pass has seen,
-- and the numbers of their turns are those of the passes' own entries.
pub record HavePlayed (program : Program) (captures : Captures) (done : ℕ) (main : Knowing) (seats : List Seat) : Type 0 where
  pub cast : Cast
  pub lists : List (List (List ℕ))
  pub turns : TurnsOfUnits program.pool main.seen (cast_of program) 0 (take done (units_of program captures)) lists cast (length main.seen)
  pub users_are : AreUsersFrom program.pool 1 seats cast.users
  pub made : (number : ℕ) → times_made number (all_know main seats) ≡ times_among number (lists_in lists)

-- They play a unit more, by entries behind those.
pub record PlaysUnit (pool : ℕ) (unit : ScriptUnit) (main next : Knowing) (before after : List Seat) : Type 0 where
  pub begins : IsPrefix main.seen next.seen
  pub lists : List (List ℕ)
  pub plays : (cast : Cast) → AreUsersFrom pool 1 before cast.users
      → (afters : List Machine) × (EachShare (PlaysShare pool next.seen) cast unit lists afters × AreUsersFrom pool 1 after (cast_after unit afters cast).users)
  pub inside : AllByRecursion (AllByRecursion (IsWithin (length main.seen) (length next.seen))) lists
  pub made : (number : ℕ) → times_made number (all_know next after) ≡ times_made number (all_know main before) + times_among number lists

-- Users stop in a unit, of which this one counts: it is refused this call, in what stands after so
-- many entries.
pub record StopsUnit (fixed : Fixed) (unit : ScriptUnit) (user count : ℕ) (call : Ask) (fault : StepFault) (main next : Knowing) (before after : List Seat) : Type 0 where
  pub begins : IsPrefix main.seen next.seen
  pub lists : List (List ℕ)
  pub works : (cast : Cast) → AreUsersFrom fixed.pool 1 before cast.users
      → (afters : List Machine) × EachShare (PlaysOrStops fixed.pool next.seen count user call) cast unit lists afters
  pub inside : AllByRecursion (AllByRecursion (IsWithin (length main.seen) (length next.seen))) lists
  pub made : (number : ℕ) → times_made number (all_know next after) ≡ times_made number (all_know main before) + times_among number lists
  pub of_unit : list_any (is_share_of user) unit ≡ true
  pub forward : length main.seen ≤ count
  pub seen : count ≤ length next.seen
  pub refusal : IsRefusal (record_in fixed (take count next.seen)) call fault

-- A user's share of a unit at its seat.

-- the seat's user plays these tasks, by entries behind those that the main pass had seen
pub record PlaysAt (pool number : ℕ) (tasks : Machine → List Task) (main next : Knowing) (before after : Seat) : Type 0 where
  pub added : List (ℕ × Entry)
  pub plays : (user : Machine) → IsUserAt pool number before user
      → (later : Machine) × (PlaysUser pool next.seen (resting (record user { tasks = tasks user })) (numbers added) later × IsUserAt pool number after later)
  pub inside : AllByRecursion (IsWithin (length main.seen) (length next.seen)) (numbers added)

abbrev pub lines_tasks : (List ℕ → List (List ℕ)) → List Line → ℕ → Machine → List Task
lines_tasks records lines number user = tasks_of_lines records (acts_of lines number)

-- and so the lines of a block that are its own, which its own pass makes; one that has none of them
-- stays
pub record PlaysBlockAt (pool number : ℕ) (records : List ℕ → List (List ℕ)) (lines : List Line) (main next : Knowing) (before after : Seat) : Type 0 where
  pub plays : PlaysAt pool number (lines_tasks records lines number) main next before after
  pub made : (n : ℕ) → times_made n (knows_at after) ≡ times_made n (knows_at before) + times_among n (numbers plays.added ∷ [])
  pub idle : has_line lines number ≡ false → (plays.added ≡ []) × ((user : Machine) → IsUserAt pool number before user → IsUserAt pool number after user)

-- all of them, numbered from this number on
abbrev pub PlayBlockFrom : ℕ → ℕ → (List ℕ → List (List ℕ)) → List Line → Knowing → Knowing → List Seat → List Seat → Type 0
PlayBlockFrom pool number records lines main next [] [] = Unit {0}
PlayBlockFrom pool number records lines main next (before ∷ befores) (after ∷ afters) =
    PlaysBlockAt pool number records lines main next before after × PlayBlockFrom pool (number + 1) records lines main next befores afters
PlayBlockFrom pool number records lines main next _ _ = ⊥

-- One that has stopped, or is behind one that has, need not have come to their end: its entries are its
-- own calls.
pub record ReplaysAt (pool number : ℕ) (tasks : Machine → List Task) (main next : Knowing) (before after : Seat) : Type 0 where
  pub added : List (ℕ × Entry)
  pub replays : (user : Machine) → IsUserAt pool number before user
      → (later : Machine) × ReplaysUser pool next.seen (resting (record user { tasks = tasks user })) (numbers added) later
  pub inside : AllByRecursion (IsWithin (length main.seen) (length next.seen)) (numbers added)

-- the one that counts is refused this call
pub record StopsAtSeat (pool number : ℕ) (tasks : Machine → List Task) (count : ℕ) (call : Ask) (main next : Knowing) (before after : Seat) : Type 0 where
  pub replays : ReplaysAt pool number tasks main next before after
  pub stops : (user : Machine) (at : IsUserAt pool number before user)
      → StopsUser pool next.seen count call (numbers replays.added) (replays.replays user at).0

pub record ReplaysBlockAt (pool number : ℕ) (records : List ℕ → List (List ℕ)) (lines : List Line) (main next : Knowing) (before after : Seat) : Type 0 where
  pub replays : ReplaysAt pool number (lines_tasks records lines number) main next before after
  pub made : (n : ℕ) → times_made n (knows_at after) ≡ times_made n (knows_at before) + times_among n (numbers replays.added ∷ [])
  pub idle : has_line lines number ≡ false → replays.added ≡ []

pub record StopsBlockAt (pool number : ℕ) (records : List ℕ → List (List ℕ)) (lines : List Line) (count : ℕ) (call : Ask) (main next : Knowing) (before after : Seat) : Type 0 where
  pub there : has_line lines number ≡ true
  pub stops : StopsAtSeat pool number (lines_tasks records lines number) count call main next before after
  pub made : (n : ℕ) → times_made n (knows_at after) ≡ times_made n (knows_at before) + times_among n (numbers stops.replays.added ∷ [])

-- those behind the one that counts
abbrev pub ReplayBlockFrom : ℕ → ℕ → (List ℕ → List (List ℕ)) → List Line → Knowing → Knowing → List Seat → List Seat → Type 0
ReplayBlockFrom pool number records lines main next [] [] = Unit {0}
ReplayBlockFrom pool number records lines main next (before ∷ befores) (after ∷ afters) =
    ReplaysBlockAt pool number records lines main next before after × ReplayBlockFrom pool (number + 1) records lines main next befores afters
ReplayBlockFrom pool number records lines main next _ _ = ⊥

-- All of them, numbered from this number on: those of smaller numbers play their lines, and this user,
-- counted from 0, stops.
abbrev pub StopBlockFrom : ℕ → ℕ → ℕ → (List ℕ → List (List ℕ)) → List Line → ℕ → Ask → Knowing → Knowing → List Seat → List Seat → Type 0
StopBlockFrom pool number zero records lines count call main next (before ∷ befores) (after ∷ afters) =
    StopsBlockAt pool number records lines count call main next before after × ReplayBlockFrom pool (number + 1) records lines main next befores afters
StopBlockFrom pool number (suc left) records lines count call main next (before ∷ befores) (after ∷ afters) =
    PlaysBlockAt pool number records lines main next before after × StopBlockFrom pool (number + 1) left records lines count call main next befores afters
StopBlockFrom pool number left records lines count call main next _ _ = ⊥

-- The laws.

-- at the beginning nobody has come
abbrev pub PlayBegins : Type 0
PlayBegins =
    (program : Program) (captures : Captures) (main : Knowing)
    → main.seen ≡ [] → main.mine ≡ [] → HavePlayed program captures 0 main (replicate (user_count program) Away)

abbrev pub UnitIsPlayed : Type 0
UnitIsPlayed =
    (program : Program) (captures : Captures) (done : ℕ) (unit : ScriptUnit) (main next : Knowing) (before after : List Seat)
    → slice_get (units_of program captures) done ≡ Some unit
    → HavePlayed program captures done main before → PlaysUnit program.pool unit main next before after
    → HavePlayed program captures (done + 1) next after

-- where no user is there any more, and all entries are the main pass's own, the script is played
abbrev pub PlayIsWhole : Type 0
PlayIsWhole =
    (program : Program) (captures : Captures) (main : Knowing) (seats : List Seat)
    → HasCaptures program captures → HavePlayed program captures (length (units_of program captures)) main seats
    → flat_map knows_at seats ≡ [] → main.mine ≡ numbered 1 main.seen
    → (cast : Cast) × (HasPlayed program captures main.seen cast × AreUsersFrom program.pool 1 seats cast.users)

-- and where users stop in a unit, and all leave, so it has stopped there
abbrev pub StopIsWhole : Type 0
StopIsWhole =
    (program : Program) (captures : Captures) (fixed : Fixed) (done : ℕ) (unit : ScriptUnit) (user count : ℕ) (call : Ask) (fault : StepFault)
    (main next last : Knowing) (before after seats : List Seat)
    → HasCaptures program captures → fixed.pool ≡ program.pool
    → slice_get (units_of program captures) done ≡ Some unit
    → HavePlayed program captures done main before → StopsUnit fixed unit user count call fault main next before after
    → IsPrefix next.seen last.seen
    → ((number : ℕ) → number ≤ length next.seen → times_made number (all_know last seats) ≡ times_made number (all_know next after))
    → flat_map knows_at seats ≡ [] → last.mine ≡ numbered 1 last.seen
    → HaveStopped program captures last.seen count user call

-- a unit of one user is what its seat makes of it
abbrev pub ShareIsUnit : Type 0
ShareIsUnit =
    (pool : ℕ) (share : UnitShare) (main next : Knowing) (seats : List Seat) (before after : Seat)
    → slice_get seats (share.user - 1) ≡ Some before → 1 ≤ share.user → IsPrefix main.seen next.seen
    → (plays : PlaysAt pool share.user share.tasks main next before after)
    → ((n : ℕ) → times_made n (next ∷ knows_at after) ≡ times_made n (main ∷ knows_at before) + times_among n (numbers plays.added ∷ []))
    → PlaysUnit pool (share ∷ []) main next seats (slice_set seats (share.user - 1) after)

-- and a block what each of them makes
abbrev pub BlockIsUnit : Type 0
BlockIsUnit =
    (pool : ℕ) (records : List ℕ → List (List ℕ)) (lines : List Line) (main next : Knowing) (before after : List Seat)
    → IsPrefix main.seen next.seen → next.mine ≡ main.mine → PlayBlockFrom pool 1 records lines main next before after
    → PlaysUnit pool (shares_of records (length before) (parts.Block lines)) main next before after

-- A unit in which its one user stops, and a block in which this user does.
abbrev pub ShareStops : Type 0
ShareStops =
    (fixed : Fixed) (share : UnitShare) (count : ℕ) (call : Ask) (fault : StepFault) (main next : Knowing) (seats : List Seat) (before after : Seat)
    → slice_get seats (share.user - 1) ≡ Some before → 1 ≤ share.user → IsPrefix main.seen next.seen
    → (stops : StopsAtSeat fixed.pool share.user share.tasks count call main next before after)
    → ((n : ℕ) → times_made n (next ∷ knows_at after) ≡ times_made n (main ∷ knows_at before) + times_among n (numbers stops.replays.added ∷ []))
    → length main.seen ≤ count → count ≤ length next.seen → IsRefusal (record_in fixed (take count next.seen)) call fault
    → StopsUnit fixed (share ∷ []) share.user count call fault main next seats (slice_set seats (share.user - 1) after)

abbrev pub BlockStops : Type 0
BlockStops =
    (fixed : Fixed) (records : List ℕ → List (List ℕ)) (lines : List Line) (at count : ℕ) (call : Ask) (fault : StepFault) (main next : Knowing) (before after : List Seat)
    → IsPrefix main.seen next.seen → next.mine ≡ main.mine → StopBlockFrom fixed.pool 1 at records lines count call main next before after
    → length main.seen ≤ count → count ≤ length next.seen → IsRefusal (record_in fixed (take count next.seen)) call fault
    → StopsUnit fixed (shares_of records (length before) (parts.Block lines)) (at + 1) count call fault main next before after

-- What a player's work is at its seat.

-- The same user, whose pass may know something else: it has met another, or given a part away.
abbrev pub IsSame : PlayerState → PlayerState → Type 0
IsSame p q = q ≡ record p { session = record p.session { knows = q.session.knows } }

-- the seat's user plays these tasks by the entries that a pass has made since it knew so much
pub record WorksAt (pool number : ℕ) (tasks : Machine → List Task) (began knows main next : Knowing) (before after : Seat) : Type 0 where
  pub plays : PlaysAt pool number tasks main next before after
  pub mine : knows.mine ≡ began.mine ++ plays.added

-- or stops in them
pub record StopsInWork (pool number : ℕ) (tasks : Machine → List Task) (began knows main next : Knowing) (before after : Seat) : Type 0 where
  pub replays : ReplaysAt pool number tasks main next before after
  pub mine : knows.mine ≡ began.mine ++ replays.added

-- at a call for whose entry the record had no room, in all that the pass has seen
pub record IsFullAt (fixed : Fixed) (number : ℕ) (tasks : Machine → List Task) (fault : StepFault) (began knows main next : Knowing) (before after : Seat) : Type 0 where
  pub call : Ask
  pub stops : StopsAtSeat fixed.pool number tasks (length knows.seen) call main next before after
  pub mine : knows.mine ≡ began.mine ++ stops.replays.added
  pub forward : length main.seen ≤ length knows.seen
  pub seen : length knows.seen ≤ length next.seen
  pub refusal : IsRefusal (record_in fixed (take (length knows.seen) next.seen)) call fault

-- Its user is there: `met` once its pass has seen what the main pass had, and at the end of its work
-- `q`, of which `parted` is left at the seat.
abbrev pub WorkIsAt : Type 0
WorkIsAt =
    (pool : ℕ) (tasks : Machine → List Task) (p met q parted : PlayerState) (main next : Knowing) (fault later : Option StepFault)
    → IsSame p met → IsSame q parted → IsStill met q → IsThere None q.session → q.session.fixed.pool ≡ pool
    → Does met q (tasks (machine_of p []))
    → IsPrefix main.seen met.session.knows.seen → IsPrefix q.session.knows.seen next.seen
    → WorksAt pool p.number tasks met.session.knows q.session.knows main next (There p fault) (There parted later)

abbrev pub StopIsAt : Type 0
StopIsAt =
    (pool : ℕ) (tasks : Machine → List Task) (p met q : PlayerState) (main next : Knowing) (fault : Option StepFault) (stop : StepFault) (after : Seat)
    → IsSame p met → q.session.fixed.pool ≡ pool
    → Stops met q (tasks (machine_of p [])) stop
    → IsPrefix main.seen met.session.knows.seen → IsPrefix q.session.knows.seen next.seen
    → StopsInWork pool p.number tasks met.session.knows q.session.knows main next (There p fault) after

abbrev pub FullStopIsAt : Type 0
FullStopIsAt =
    (fixed : Fixed) (tasks : Machine → List Task) (p met q : PlayerState) (main next : Knowing) (fault : Option StepFault) (what : Part) (used want : ℕ) (after : Seat)
    → IsSame p met → q.session.fixed ≡ fixed
    → Stops met q (tasks (machine_of p [])) (RecordFull what used want)
    → IsPrefix main.seen met.session.knows.seen → IsPrefix q.session.knows.seen next.seen
    → IsFullAt fixed p.number tasks (RecordFull what used want) met.session.knows q.session.knows main next (There p fault) after

-- a user that does not come has nothing to do, whatever its lines say
abbrev pub AbsentIsAt : Type 0
AbsentIsAt =
    (pool number : ℕ) (tasks : Machine → List Task) (main next : Knowing)
    → AllByRecursion NeedsSession (tasks (new_machine pool number)) → IsPrefix main.seen next.seen
    → (plays : PlaysAt pool number tasks main next Away Away) × (plays.added ≡ [])

-- one that comes does what its lines say behind that
abbrev pub EnteringIsAt : Type 0
EnteringIsAt =
    (fabric : Fabric) (number : ℕ) (tasks : Machine → List Task) (rest : List Task) (p q parted : PlayerState) (began main next : Knowing) (later : Option StepFault)
    → tasks (new_machine (fixed_in fabric).pool number) ≡ Arrive ∷ rest
    → HasEntered fabric began number p → IsSame q parted → IsStill p q → IsThere None q.session → Does p q rest
    → IsPrefix main.seen began.seen → IsPrefix q.session.knows.seen next.seen
    → WorksAt (fixed_in fabric).pool number tasks began q.session.knows main next Away (There parted later)

abbrev pub ComingIsAt : Type 0
ComingIsAt =
    (fabric : Fabric) (number : ℕ) (tasks : Machine → List Task) (p parted : PlayerState) (began main next : Knowing) (later : Option StepFault)
    → tasks (new_machine (fixed_in fabric).pool number) ≡ Arrive ∷ EndLine ∷ []
    → HasEntered fabric began number p → IsSame p parted → IsThere None p.session
    → IsPrefix main.seen began.seen → IsPrefix p.session.knows.seen next.seen
    → WorksAt (fixed_in fabric).pool number tasks began p.session.knows main next Away (There parted later)

-- and stops where it has not come
abbrev pub EnterStopIsAt : Type 0
EnterStopIsAt =
    (fixed : Fixed) (number : ℕ) (tasks : Machine → List Task) (rest : List Task) (began knows main next : Knowing) (stop : StepFault) (after : Seat)
    → tasks (new_machine fixed.pool number) ≡ Arrive ∷ rest → IsRefused fixed began knows (Enter number) stop
    → IsPrefix main.seen began.seen → IsPrefix knows.seen next.seen
    → StopsInWork fixed.pool number tasks began knows main next Away after

abbrev pub FullEnterStopIsAt : Type 0
FullEnterStopIsAt =
    (fixed : Fixed) (number : ℕ) (tasks : Machine → List Task) (rest : List Task) (began knows main next : Knowing) (what : Part) (used want : ℕ) (after : Seat)
    → tasks (new_machine fixed.pool number) ≡ Arrive ∷ rest → IsRefused fixed began knows (Enter number) (RecordFull what used want)
    → IsPrefix main.seen began.seen → IsPrefix knows.seen next.seen
    → IsFullAt fixed number tasks (RecordFull what used want) began knows main next Away after

-- one that leaves
abbrev pub LeavingIsAt : Type 0
LeavingIsAt =
    (pool : ℕ) (p met : PlayerState) (left main next : Knowing) (fault : Option StepFault) (saves : Vec Save Global)
    → IsSame p met → IsThere None met.session → met.session.fixed.pool ≡ pool → saves.items ≡ p.saves → IsLeft met.session left
    → IsPrefix main.seen met.session.knows.seen → IsPrefix left.seen next.seen
    → WorksAt pool p.number closing_tasks met.session.knows left main next (There p fault) (Gone saves)

-- In a block.

-- among the entries of the seat's pass are just those that this one has made
abbrev pub HasMade : Seat → Knowing → Type 0
HasMade seat v = (n : ℕ) → times_made n (knows_at seat) ≡ times_made n (v ∷ [])

-- what a seat's work with the tasks of its lines is to a block
abbrev pub IsOfBlock : (ℕ → ℕ → (Machine → List Task) → Knowing → Knowing → Knowing → Knowing → Seat → Seat → Type 0) → (ℕ → ℕ → (List ℕ → List (List ℕ)) → List Line → Knowing → Knowing → Seat → Seat → Type 0) → Type 0
IsOfBlock InWork InBlock =
    (pool number : ℕ) (records : List ℕ → List (List ℕ)) (lines : List Line) (began knows main next : Knowing) (before after : Seat)
    → has_line lines number ≡ true → HasMade before began → HasMade after knows
    → InWork pool number (lines_tasks records lines number) began knows main next before after
    → InBlock pool number records lines main next before after

abbrev pub WorkIsOfBlock : Type 0
WorkIsOfBlock = IsOfBlock WorksAt PlaysBlockAt

abbrev pub StopIsOfBlock : Type 0
StopIsOfBlock = IsOfBlock StopsInWork ReplaysBlockAt

abbrev pub FullStopIsOfBlock : Type 0
FullStopIsOfBlock =
    (fixed : Fixed) (number : ℕ) (records : List ℕ → List (List ℕ)) (lines : List Line) (fault : StepFault) (began knows main next : Knowing) (before after : Seat)
    → has_line lines number ≡ true → HasMade before began → HasMade after knows
    → (full : IsFullAt fixed number (lines_tasks records lines number) fault began knows main next before after)
    → StopsBlockAt fixed.pool number records lines (length knows.seen) full.call main next before after

-- the seat has the same user, whose pass has made no entry
abbrev pub StaysAt : Seat → Seat → Type 0
StaysAt (There p fault) (There q later) = IsSame p q × (q.session.knows.mine ≡ p.session.knows.mine)
StaysAt (There p fault) after = ⊥
StaysAt before after = after ≡ before

-- a user without lines stays, and so one that is not there
abbrev pub IdleIsOfBlock : Type 0
IdleIsOfBlock =
    (pool number : ℕ) (records : List ℕ → List (List ℕ)) (lines : List Line) (main next : Knowing) (before after : Seat)
    → has_line lines number ≡ false → StaysAt before after → PlaysBlockAt pool number records lines main next before after

abbrev pub AbsentIsOfBlock : Type 0
AbsentIsOfBlock =
    (pool number : ℕ) (records : List ℕ → List (List ℕ)) (lines : List Line) (main next : Knowing)
    → AllByRecursion NeedsSession (tasks_of_lines records (acts_of lines number)) → IsPrefix main.seen next.seen
    → PlaysBlockAt pool number records lines main next Away Away

-- what plays its lines replays them
abbrev pub PlayIsReplay : Type 0
PlayIsReplay =
    (pool number : ℕ) (records : List ℕ → List (List ℕ)) (lines : List Line) (main next : Knowing) (before after : Seat)
    → PlaysBlockAt pool number records lines main next before after → ReplaysBlockAt pool number records lines main next before after

-- A player has lines of a block, and its pass made entries by these alone: none where it met the main
-- pass, and none where it told that of them.
pub record IsInBlock (number : ℕ) (lines : List Line) (p met q parted : PlayerState) (main next : Knowing) : Type 0 where
  pub number_is : p.number ≡ number
  pub has : has_line lines number ≡ true
  pub same : IsSame p met
  pub met_mine : met.session.knows.mine ≡ p.session.knows.mine
  pub parts : IsSame q parted
  pub parted_mine : parted.session.knows.mine ≡ q.session.knows.mine
  pub low : IsPrefix main.seen met.session.knows.seen
  pub high : IsPrefix q.session.knows.seen next.seen

abbrev pub PlayerPlaysLines : Type 0
PlayerPlaysLines =
    (pool number : ℕ) (records : List ℕ → List (List ℕ)) (lines : List Line) (p met q parted : PlayerState) (main next : Knowing) (fault later : Option StepFault)
    → IsInBlock number lines p met q parted main next → IsStill met q → IsThere None q.session → q.session.fixed.pool ≡ pool
    → Does met q (tasks_of_lines records (acts_of lines number))
    → PlaysBlockAt pool number records lines main next (There p fault) (There parted later)

abbrev pub PlayerStopsInLines : Type 0
PlayerStopsInLines =
    (pool number : ℕ) (records : List ℕ → List (List ℕ)) (lines : List Line) (p met q parted : PlayerState) (main next : Knowing) (fault later : Option StepFault) (stop : StepFault)
    → IsInBlock number lines p met q parted main next → q.session.fixed.pool ≡ pool
    → Stops met q (tasks_of_lines records (acts_of lines number)) stop
    → ReplaysBlockAt pool number records lines main next (There p fault) (There parted later)

-- at a call for which the record had no room, after so many entries
pub record IsFullInLines (fixed : Fixed) (number : ℕ) (records : List ℕ → List (List ℕ)) (lines : List Line) (count : ℕ) (fault : StepFault) (main next : Knowing) (before after : Seat) : Type 0 where
  pub call : Ask
  pub stops : StopsBlockAt fixed.pool number records lines count call main next before after
  pub forward : length main.seen ≤ count
  pub seen : count ≤ length next.seen
  pub refusal : IsRefusal (record_in fixed (take count next.seen)) call fault

abbrev pub PlayerIsFullInLines : Type 0
PlayerIsFullInLines =
    (fixed : Fixed) (number : ℕ) (records : List ℕ → List (List ℕ)) (lines : List Line) (p met q parted : PlayerState) (main next : Knowing) (fault later : Option StepFault) (what : Part) (used want : ℕ)
    → IsInBlock number lines p met q parted main next → q.session.fixed ≡ fixed
    → Stops met q (tasks_of_lines records (acts_of lines number)) (RecordFull what used want)
    → IsFullInLines fixed number records lines (length q.session.knows.seen) (RecordFull what used want) main next (There p fault) (There parted later)

-- What holds of each seat, at its place counted from 0, holds of all of them.

abbrev pub BlockIsOfEach : Type 0
BlockIsOfEach =
    (pool : ℕ) (records : List ℕ → List (List ℕ)) (lines : List Line) (main next : Knowing) (befores afters : List Seat)
    → length afters ≡ length befores
    → ((place : ℕ) (before after : Seat) → slice_get befores place ≡ Some before → slice_get afters place ≡ Some after
    → PlaysBlockAt pool (place + 1) records lines main next before after)
    → PlayBlockFrom pool 1 records lines main next befores afters

abbrev pub StopIsOfEach : Type 0
StopIsOfEach =
    (pool : ℕ) (records : List ℕ → List (List ℕ)) (lines : List Line) (at count : ℕ) (call : Ask) (main next : Knowing) (befores afters : List Seat)
    → length afters ≡ length befores → at < length befores
    → ((place : ℕ) (before after : Seat) → slice_get befores place ≡ Some before → slice_get afters place ≡ Some after → place < at
    → PlaysBlockAt pool (place + 1) records lines main next before after)
    → ((before after : Seat) → slice_get befores at ≡ Some before → slice_get afters at ≡ Some after
    → StopsBlockAt pool (at + 1) records lines count call main next before after)
    → ((place : ℕ) (before after : Seat) → slice_get befores place ≡ Some before → slice_get afters place ≡ Some after → at < place
    → ReplaysBlockAt pool (place + 1) records lines main next before after)
    → StopBlockFrom pool 1 at records lines count call main next befores afters

-- How often an entry stands among the own ones of passes that are joined, cut in two, or have made more.

abbrev pub JoinedIsBoth : Type 0
JoinedIsBoth =
    (n : ℕ) (v w joined : Knowing) (passes : List Knowing) → joined.mine ≡ merged v.mine w.mine
    → times_made n (joined ∷ passes) ≡ times_made n (v ∷ w ∷ passes)

abbrev pub CutIsWhole : Type 0
CutIsWhole =
    (n : ℕ) (v kept given : Knowing) (passes : List Knowing) → kept.mine ≡ v.mine → given.mine ≡ []
    → times_made n (kept ∷ given ∷ passes) ≡ times_made n (v ∷ passes)

abbrev pub AddedIsMade : Type 0
AddedIsMade =
    (n : ℕ) (v w : Knowing) (added : List (ℕ × Entry)) (passes : List Knowing) → w.mine ≡ v.mine ++ added
    → times_made n (w ∷ passes) ≡ times_made n (v ∷ passes) + times_among n (numbers added ∷ [])

-- whichever of them stands in front
abbrev pub FrontIsFree : Type 0
FrontIsFree = (n : ℕ) (v w : Knowing) (passes : List Knowing) → times_made n (v ∷ w ∷ passes) ≡ times_made n (w ∷ v ∷ passes)
