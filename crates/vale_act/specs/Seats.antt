-- What the main pass and the seats of a script's users learn from one another, and what a line or a
-- block makes of them.
use Rattle.std.specs.Prelude.{ℕ, ◌≡◌, ◌<◌, ◌≤◌, ◌+◌, List, [], ◌∷◌, ◌++◌, length, flat_map, map, take, Option, Some, None, slice_get, Result, Ok, OnOk, IfErr, Vec}
use Rattle.std.specs.List.{AllByRecursion}
use Rattle.std.specs.declared.alloc.Global.{Global}
use mathlib.Core.List.{IsPrefix}
use Rattle.nm_turn.specs.declared.pass.Pass.{Pass}
use Rattle.nm_turn.specs.Numbered.{numbered, numbers}
use Rattle.nm_turn.specs.Passes.{kept_view}
use Rattle.nm_turn.specs.Shares.{IsWhole}
use Rattle.nm_types.specs.declared.fault.StepFault.{StepFault}
use Rattle.nm_types.specs.declared.fault.StepFault.TheVariants.{RecordFull, NoMemory}
use Rattle.nm_user.specs.Sessions.{IsThere}
use Rattle.vale_script.specs.declared.script.Act.{Act}
use Rattle.vale_script.specs.declared.script.Act.TheVariants as acts
use Rattle.vale_script.specs.declared.script.Line.{Line}
use Rattle.vale_script.specs.declared.script.Unit.{Unit as ReadUnit}
use Rattle.vale_script.specs.declared.script.Unit.TheVariants as parts
use Rattle.vale_script.specs.Script.{Program}
use Rattle.vale_captures.specs.Inputs.{InputFile}
use Rattle.vale_player.specs.Deeds.{AllSaveNamed, AreDoable, IsDoable}
use Rattle.vale_player.specs.Inputs.{captures_of, names_of}
use Rattle.vale_entry.specs.declared.entry.Ask.{Ask}
use Rattle.vale_entry.specs.declared.entry.Entry.{Entry}
use Rattle.vale_entry.specs.declared.entry.Ask.TheVariants.{Enter}
use Rattle.vale_book.specs.Recorded.{IsRefusal, Recorded}
use Rattle.nm_user.specs.Calls.{IsRefused}
use Rattle.vale_fabric.specs.declared.kept.Fixed.{Fixed}
use Rattle.vale_replay.specs.Machine.{Machine, Save, closing_tasks}
use Rattle.vale_replay.specs.Tasks.{Captures, Task, tasks_of_lines}
use Rattle.vale_replay.specs.Replay.{Cast, HasPlayed, ScriptUnit, act_of, times_among, units_of, user_count}
use Rattle.vale_fabric.specs.declared.fabric.Fabric.{Fabric}
use Rattle.vale_fabric.specs.Fabrics.{Knowing, IsPassIn, record_in}
use Rattle.vale_player.specs.Players.{PlayerState, Does, HasEntered, IsStill, RunsLines, Stops}
use Rattle.vale_act.specs.Units.{AreUsersFrom, HaveWhole, IsOn, HavePlayed, PlaysAt, PlaysUnit, StopsAtSeat, StopsUnit, all_know, knows_at, times_made}
use Rattle.vale_act.specs.Plays.{IsStoppedBy}
use Rattle.vale_act.specs.declared.seat.Seat.{Seat}
use Rattle.vale_act.specs.declared.seat.Seat.TheVariants.{Away, There, Gone}

-- a pass that has the whole has made all that it has seen
abbrev pub HasAllIfWhole : Knowing → Type 0
HasAllIfWhole v = IsWhole v.part → v.mine ≡ numbered 1 v.seen

-- the main pass and these others have the whole together, and it has made all that it has seen where
-- it has the whole alone
pub record IsHeld (main : Knowing) (others : List Knowing) : Type 0 where
  pub whole : HaveWhole (main ∷ others)
  pub all : HasAllIfWhole main

-- and so they have afterwards, whatever passes there are beside them
abbrev pub KeepHeld : Knowing → List Knowing → Knowing → List Knowing → Type 0
KeepHeld main others next nexts = (rest : List Knowing) → IsHeld main (others ++ rest) → IsHeld next (nexts ++ rest)

abbrev pub with_knows : Knowing → PlayerState → PlayerState
with_knows v p = record p { session = record p.session { knows = v } }

-- The user of a seat is there, and has seen all that the main pass has.
pub record HasLearned (main : Knowing) (p q : PlayerState) : Type 0 where
  pub same : q ≡ with_knows q.session.knows p
  pub mine : q.session.knows.mine ≡ p.session.knows.mine
  pub seen : IsPrefix p.session.knows.seen q.session.knows.seen
  pub news : IsPrefix main.seen q.session.knows.seen
  pub there : IsThere None q.session

abbrev pub HasMet : Knowing → Seat → Seat → Type 0
HasMet main (There p fault) after = (q : PlayerState) × ((after ≡ There q fault) × HasLearned main p q)
HasMet main before after = after ≡ before

-- the main pass goes from v to w, and so the seat's user learns of all that the main pass has seen
pub record Meets (v w : Knowing) (before after : Seat) : Type 0 where
  pub seen : w.seen ≡ v.seen
  pub mine : w.mine ≡ v.mine
  pub held : KeepHeld v (knows_at before) w (knows_at after)
  pub seat : HasMet v before after

-- The main pass has seen all that the user of a seat has, which is there.
pub record HasSaid (main : Knowing) (p q : PlayerState) : Type 0 where
  pub same : q ≡ with_knows (kept_view p.session.knows) p
  pub seen : IsPrefix p.session.knows.seen main.seen
  pub there : IsThere None p.session

abbrev pub HasTold : Knowing → Seat → Seat → Type 0
HasTold main (There p fault) after = (q : PlayerState) × ((after ≡ There q fault) × HasSaid main p q)
HasTold main before after = after ≡ before

-- the main pass goes from v to w, and so learns of all that the seat's user has seen
pub record Tells (v w : Knowing) (before after : Seat) : Type 0 where
  pub begins : IsPrefix v.seen w.seen
  pub mine : w.mine ≡ v.mine
  pub held : KeepHeld v (knows_at before) w (knows_at after)
  pub seat : HasTold w before after

-- All seats.

abbrev pub AllAre : (ℕ → Seat → Type 0) → List Seat → Type 0
AllAre P seats = (place : ℕ) (seat : Seat) → slice_get seats place ≡ Some seat → P place seat

abbrev pub AllOn : Fabric → List Seat → Type 0
AllOn fabric seats = AllAre (λ place. IsOn fabric) seats

-- the main pass and the session of a seat's user, or of all users, are of this fabric
abbrev pub IsOnFabric : Fabric → Pass Recorded Entry Fixed → Seat → Type 0
IsOnFabric fabric main seat = IsPassIn fabric main × IsOn fabric seat

abbrev pub AreOnFabric : Fabric → Pass Recorded Entry Fixed → List Seat → Type 0
AreOnFabric fabric main seats = IsPassIn fabric main × AllOn fabric seats

-- one that has come has this number, and none has left
abbrev pub IsSeated : ℕ → Seat → Type 0
IsSeated number Away = Unit {0}
IsSeated number (There p fault) = p.number ≡ number
IsSeated number (Gone saves) = ⊥

abbrev pub AreSeated : List Seat → Type 0
AreSeated seats = AllAre (λ place. IsSeated (place + 1)) seats

-- of the ports of these names the frames are kept, where a user is there, and where all are
abbrev pub KeepsNames : List (List ℕ) → Seat → Type 0
KeepsNames names (There p fault) = p.names ≡ names
KeepsNames names _ = Unit {0}

abbrev pub AllKeepNames : List (List ℕ) → List Seat → Type 0
AllKeepNames names seats = AllAre (λ place. KeepsNames names) seats

-- this has happened at each of them
pub record AreEach (R : ℕ → Seat → Seat → Type 0) (befores afters : List Seat) : Type 0 where
  pub len : length afters ≡ length befores
  pub each : (place : ℕ) (before after : Seat) → slice_get befores place ≡ Some before → slice_get afters place ≡ Some after → R place before after

-- all users learn of what the main pass has seen
pub record MeetAll (v w : Knowing) (befores afters : List Seat) : Type 0 where
  pub seen : w.seen ≡ v.seen
  pub mine : w.mine ≡ v.mine
  pub seats : AreEach (λ place. HasMet v) befores afters
  pub held : IsHeld v (flat_map knows_at befores) → IsHeld w (flat_map knows_at afters)

-- and the main pass of what all users have seen
pub record TellAll (v w : Knowing) (befores afters : List Seat) : Type 0 where
  pub begins : IsPrefix v.seen w.seen
  pub mine : w.mine ≡ v.mine
  pub seats : AreEach (λ place. HasTold w) befores afters
  pub held : IsHeld v (flat_map knows_at befores) → IsHeld w (flat_map knows_at afters)

-- The users of a block do their lines.

-- of the ports that they save the frames are kept
abbrev pub CanSave : List Line → Seat → Type 0
CanSave lines (There p fault) = AllSaveNamed p.names (map act_of lines)
CanSave lines _ = Unit {0}

abbrev pub HasRun : (List ℕ → List (List ℕ)) → List Line → Seat → Seat → Type 0
HasRun records lines (There p fault) after = (q : PlayerState) × ((stop : Option StepFault) × ((after ≡ There q stop) × RunsLines records lines p q stop))
HasRun records lines before after = after ≡ before

abbrev pub fault_at : Seat → Option StepFault
fault_at (There p fault) = fault
fault_at _ = None

-- the first user that a fault has stopped
pub record IsFirstFault (seats : List Seat) (fault : StepFault) : Type 0 where
  pub place : ℕ
  pub seat : Seat
  pub here : slice_get seats place ≡ Some seat
  pub fault_is : fault_at seat ≡ Some fault
  pub none_before : (k : ℕ) (other : Seat) → k < place → slice_get seats k ≡ Some other → fault_at other ≡ None

abbrev pub HasNoFault : Seat → Type 0
HasNoFault seat = fault_at seat ≡ None

-- What stops a unit.

-- lines with which nobody comes
abbrev pub IsDeed : Act → Type 0
IsDeed acts.Enter = ⊥
IsDeed _ = Unit {0}

abbrev pub IsDeedLine : Line → Type 0
IsDeedLine line = IsDeed line.act

-- a full record stops a user of the unit; after want of memory nothing is known
pub record FullStop (fixed : Fixed) (unit : ScriptUnit) (fault : StepFault) (v w : Knowing) (befores afters : List Seat) : Type 0 where
  pub user : ℕ
  pub count : ℕ
  pub call : Ask
  pub stops : StopsUnit fixed unit user count call fault v w befores afters

abbrev pub IsUnitStop : Fixed → ScriptUnit → Knowing → Knowing → List Seat → List Seat → StepFault → Type 0
IsUnitStop fixed unit v w befores afters (RecordFull what used want) = FullStop fixed unit (RecordFull what used want) v w befores afters
IsUnitStop fixed unit v w befores afters NoMemory = Unit {0}

-- One user at a time.

-- the user of a seat plays these tasks, and the entries of its turns are just those that the main
-- pass and its own have made in the meantime
pub record PlaysAlone (pool number : ℕ) (tasks : Machine → List Task) (v w : Knowing) (before after : Seat) : Type 0 where
  pub plays : PlaysAt pool number tasks v w before after
  pub made : (n : ℕ) → times_made n (w ∷ knows_at after) ≡ times_made n (v ∷ knows_at before) + times_among n (numbers plays.added ∷ [])

-- or a full record stops it in them
pub record FullAlone (fixed : Fixed) (number : ℕ) (tasks : Machine → List Task) (fault : StepFault) (v w : Knowing) (before after : Seat) : Type 0 where
  pub count : ℕ
  pub call : Ask
  pub stops : StopsAtSeat fixed.pool number tasks count call v w before after
  pub made : (n : ℕ) → times_made n (w ∷ knows_at after) ≡ times_made n (v ∷ knows_at before) + times_among n (numbers stops.replays.added ∷ [])
  pub forward : length v.seen ≤ count
  pub seen : count ≤ length w.seen
  pub refusal : IsRefusal (record_in fixed (take count w.seen)) call fault

abbrev pub StopsAlone : Fixed → ℕ → (Machine → List Task) → Knowing → Knowing → Seat → Seat → StepFault → Type 0
StopsAlone fixed number tasks v w before after (RecordFull what used want) = FullAlone fixed number tasks (RecordFull what used want) v w before after
StopsAlone fixed number tasks v w before after NoMemory = Unit {0}

-- At the end each user leaves.
pub record Closes (pool : ℕ) (v w : Knowing) (before after : Seat) : Type 0 where
  pub begins : IsPrefix v.seen w.seen
  pub held : KeepHeld v (knows_at before) w (knows_at after)
  pub gone : knows_at after ≡ []
  pub plays : (number : ℕ) → IsSeated number before → PlaysAlone pool number closing_tasks v w before after

-- A user comes through half of the main pass.
pub record Comes (fabric : Fabric) (number : ℕ) (v w : Knowing) (p : PlayerState) : Type 0 where
  pub seen : w.seen ≡ v.seen
  pub mine : w.mine ≡ v.mine
  pub held : KeepHeld v [] w (p.session.knows ∷ [])
  pub began : Knowing
  pub began_seen : began.seen ≡ v.seen
  pub began_mine : began.mine ≡ []
  pub entered : HasEntered fabric began number p

-- or it does not, and the half goes back
pub record ComesNot (fixed : Fixed) (number : ℕ) (v w : Knowing) (fault : StepFault) : Type 0 where
  pub begins : IsPrefix v.seen w.seen
  pub mine : w.mine ≡ v.mine
  pub held : KeepHeld v [] w []
  pub began : Knowing
  pub began_seen : began.seen ≡ v.seen
  pub knows : Knowing
  pub knows_seen : IsPrefix knows.seen w.seen
  pub knows_mine : knows.mine ≡ began.mine
  pub refused : IsRefused fixed began knows (Enter number) fault

-- The user of a seat does a line.
pub record ActsLine (records : List ℕ → List (List ℕ)) (act : Act) (p q : PlayerState) (done : Result (Unit {0}) StepFault) : Type 0 where
  pub still : IsStill p q
  pub does : OnOk done (Does p q (tasks_of_lines records (act ∷ [])))
  pub stops : IfErr done (Stops p q (tasks_of_lines records (act ∷ [])))

abbrev pub HasActed : (List ℕ → List (List ℕ)) → Act → Result (Unit {0}) StepFault → Seat → Seat → Type 0
HasActed records act done (There p fault) after = (q : PlayerState) × ((after ≡ There q fault) × ActsLine records act p q done)
HasActed records act done before after = (after ≡ before) × (done ≡ Ok tt)

-- what a line outside the blocks has its user do
abbrev pub line_tasks : (List ℕ → List (List ℕ)) → Act → Machine → List Task
line_tasks records act user = tasks_of_lines records (act ∷ [])

-- and what that makes of the user's seat
pub record LineAt (fixed : Fixed) (number : ℕ) (tasks : Machine → List Task) (v w : Knowing) (before after : Seat) (done : Result (Unit {0}) StepFault) : Type 0 where
  pub begins : IsPrefix v.seen w.seen
  pub held : KeepHeld v (knows_at before) w (knows_at after)
  pub seat : IsSeated number after
  pub plays : OnOk done (PlaysAlone fixed.pool number tasks v w before after)
  pub stops : IfErr done (StopsAlone fixed number tasks v w before after)

-- What a unit makes of all seats.
pub record UnitAt (fixed : Fixed) (unit : ScriptUnit) (v w : Knowing) (befores afters : List Seat) (done : Result (Unit {0}) StepFault) : Type 0 where
  pub len : length afters ≡ length befores
  pub seated : AreSeated afters
  pub begins : IsPrefix v.seen w.seen
  pub held : IsHeld v (flat_map knows_at befores) → IsHeld w (flat_map knows_at afters)
  pub plays : OnOk done (PlaysUnit fixed.pool unit v w befores afters)
  pub stops : IfErr done (IsUnitStop fixed unit v w befores afters)

-- its lines are of users that there are, which can do them, and nobody comes in a block
abbrev pub IsRunnable : ℕ → ReadUnit → Type 0
IsRunnable users (parts.Single line) = (1 ≤ line.user) × ((line.user ≤ users) × IsDoable line.act)
IsRunnable users (parts.Block lines) = AreDoable lines × AllByRecursion IsDeedLine lines

-- What the closing makes of all seats: all entries are the main pass's own then, and where the users
-- have played the units of a script, they play its closings.
pub record ClosesAll (pool : ℕ) (v w : Knowing) (befores afters : List Seat) : Type 0 where
  pub begins : IsPrefix v.seen w.seen
  pub held : IsHeld v (flat_map knows_at befores) → IsHeld w (flat_map knows_at afters)
  pub gone : flat_map knows_at afters ≡ []
  pub made : (n : ℕ) → n ≤ length v.seen → times_made n (all_know w afters) ≡ times_made n (all_know v befores)
  pub plays : (program : Program) (captures : Captures) → program.pool ≡ pool → user_count program ≡ length befores
      → HavePlayed program captures (length program.units) v befores → HavePlayed program captures (length (units_of program captures)) w afters

-- Units one after another.

-- the users have played so many units of a script, and all passes have the whole together
pub record AreBetween (program : Program) (captures : Captures) (done : ℕ) (main : Knowing) (seats : List Seat) : Type 0 where
  pub seated : AreSeated seats
  pub count : length seats ≡ user_count program
  pub held : IsHeld main (flat_map knows_at seats)
  pub played : HavePlayed program captures done main seats

-- nothing was played yet of a script that can be played with these captures, from a pool of its size
pub record IsAtStart (fixed : Fixed) (program : Program) (inputs : List InputFile) (main : Knowing) (seats : List Seat) : Type 0 where
  pub between : AreBetween program (captures_of inputs) 0 main seats
  pub runnable : AllByRecursion (IsRunnable (user_count program)) program.units
  pub files : names_of inputs ≡ program.files
  pub pool : program.pool ≡ fixed.pool

-- a full record stops one of them in the next unit
pub record ScriptStop (fixed : Fixed) (program : Program) (captures : Captures) (fault : StepFault) (w : Knowing) (afters : List Seat) : Type 0 where
  pub done : ℕ
  pub unit : ScriptUnit
  pub there : slice_get (units_of program captures) done ≡ Some unit
  pub main : Knowing
  pub seats : List Seat
  pub played : HavePlayed program captures done main seats
  pub stop : FullStop fixed unit fault main w seats afters

abbrev pub IsScriptStop : Fixed → Program → Captures → Knowing → List Seat → StepFault → Type 0
IsScriptStop fixed program captures w afters (RecordFull what used want) = ScriptStop fixed program captures (RecordFull what used want) w afters
IsScriptStop fixed program captures w afters NoMemory = Unit {0}

pub record AreStopped (fixed : Fixed) (program : Program) (captures : Captures) (w : Knowing) (afters : List Seat) (fault : StepFault) : Type 0 where
  pub seated : AreSeated afters
  pub count : length afters ≡ user_count program
  pub held : IsHeld w (flat_map knows_at afters)
  pub stop : IsScriptStop fixed program captures w afters fault

-- The whole script.

-- the history plays it, and has brought its users to those of these seats
pub record ScriptPlayed (program : Program) (captures : Captures) (w : Knowing) (seats : List Seat) : Type 0 where
  pub cast : Cast
  pub played : HasPlayed program captures w.seen cast
  pub are : AreUsersFrom program.pool 1 seats cast.users

-- or a full record stops a user in it
abbrev pub IsScriptStopped : Fixed → Program → Captures → List Entry → StepFault → Type 0
IsScriptStopped = IsStoppedBy

-- Seats of which nobody has come.
pub record AreNew (count : ℕ) (seats : List Seat) : Type 0 where
  pub len : length seats ≡ count
  pub away : AllAre (λ place seat. seat ≡ Away) seats

-- What is left of the users that have gone: the files that get the frames of their ports.

abbrev pub IsEmpty : ℕ → Seat → Type 0
IsEmpty place seat = knows_at seat ≡ []

abbrev pub saves_at : Seat → List Save
saves_at (Gone saves) = saves.items
saves_at _ = []

abbrev pub files_in : Vec Save Global → List Save
files_in files = files.items

pub record AreSaves (seats : List Seat) (saves : List (Vec Save Global)) : Type 0 where
  pub len : length saves ≡ length seats
  pub each : (place : ℕ) (seat : Seat) (files : Vec Save Global) → slice_get seats place ≡ Some seat → slice_get saves place ≡ Some files → files.items ≡ saves_at seat

-- the history plays the script, and these are the files of its users
pub record ScriptDone (program : Program) (captures : Captures) (w : Knowing) (saves : List (Vec Save Global)) : Type 0 where
  pub seats : List Seat
  pub played : ScriptPlayed program captures w seats
  pub gone : AllAre IsEmpty seats
  pub saved : AreSaves seats saves
