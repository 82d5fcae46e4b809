-- Which sessions have come, and which have left, by the entries that a pass has made.
use Rattle.std.specs.Prelude.{ℕ, true, false, ◌≡◌, ◌⊎◌, ◌++◌, ◌-◌, List, [], ◌∷◌, length, replicate, slice_get, slice_set, Option, Some, None}
use Rattle.std.specs.List.{AllByRecursion}
use mathlib.Core.List.{IsPrefix}
use Rattle.nm_turn.specs.Numbered.{Stands}
use Rattle.nm_turn.specs.Passes.{HasAll, Knows, joined_view, kept_view}
use Rattle.nm_types.specs.declared.fault.StepFault.{StepFault}
use Rattle.nm_types.specs.declared.id.SessionId.{SessionId}
use Rattle.vale_entry.specs.declared.entry.Ask.TheVariants.{Enter, Leave}
use Rattle.vale_entry.specs.declared.entry.Entry.{Entry}
use Rattle.vale_entry.specs.World.{free_count}
use Rattle.vale_entry.specs.Legal.{IsLegal, world_of}
use Rattle.vale_own.specs.There.{is_coming}
use Rattle.vale_fabric.specs.declared.fabric.Fabric.{Fabric}
use Rattle.vale_fabric.specs.declared.kept.Fixed.{Fixed}
use Rattle.vale_fabric.specs.Fabrics.{Knowing}
use Rattle.vale_fabric.specs.Roots.{root_of}
use Rattle.nm_user.specs.Sessions.{SessionState, IsThere}
use Rattle.nm_user.specs.Calls.{IsRefused}
use Rattle.nm_user.specs.Leaving.{IsLeft}
use Rattle.vale_script.specs.declared.script.Act.{Act}
use Rattle.vale_replay.specs.Tasks.{Task, Depart, EndLine, tasks_of, tasks_of_lines}
use Rattle.vale_replay.specs.Machine.{Machine}
use Rattle.vale_replay.specs.Replay.{TakesTurns}
use Rattle.vale_act.specs.declared.seat.Seat.{Seat}
use Rattle.vale_act.specs.declared.seat.Seat.TheVariants.{Away, There}
use Rattle.vale_player.specs.Laws.{NeedsSession}
use Rattle.vale_player.specs.Players.{PlayerState, Does, HasEntered, Stops}
use Rattle.vale_act.specs.Units.{IsSame}

-- the pass has made the Leave of this session
pub record HasMadeLeave (v : Knowing) (session : ℕ) : Type 0 where
  pub number : ℕ
  pub own : Stands number v.mine
  pub entry : Entry
  pub there : slice_get v.seen (number - 1) ≡ Some entry
  pub leaves : entry.ask ≡ Leave (record { 0 = session })

-- the pass has seen the entry of this number, which is an Enter only where this holds of the number
pub record EntersOnlyAt (At : ℕ → Type 0) (v : Knowing) (number : ℕ) : Type 0 where
  pub entry : Entry
  pub there : slice_get v.seen (number - 1) ≡ Some entry
  pub enters : is_coming entry ≡ true → At number

-- the pass's own entries bring no session but this one
abbrev pub OnlyComes : ℕ → Knowing → Type 0
OnlyComes session v = (number : ℕ) → Stands number v.mine → EntersOnlyAt (λ n. n ≡ session) v number

-- A session has a pass by which it alone has come.
abbrev pub ComesAlone : SessionState → Type 0
ComesAlone s = OnlyComes s.id s.knows

abbrev pub ComesAloneAt : Seat → Type 0
ComesAloneAt (There p fault) = ComesAlone p.session
ComesAloneAt _ = Unit {0}

-- Each session that came by the main pass's own entries has left by another of them.
abbrev pub EachLeaves : Knowing → Type 0
EachLeaves v = (number : ℕ) → Stands number v.mine → EntersOnlyAt (HasMadeLeave v) v number

-- Once the user of each seat has left, all sessions have.
pub record CanAllLeave (main : Knowing) (seats : List Seat) : Type 0 where
  pub each : EachLeaves main
  pub alone : (place : ℕ) (seat : Seat) → slice_get seats place ≡ Some seat → ComesAloneAt seat

-- The main pass and a seat's user go on, and can leave afterwards if they could before.
abbrev pub SeatStillLeaves : Knowing → Knowing → Seat → Seat → Type 0
SeatStillLeaves v w before after = EachLeaves v → ComesAloneAt before → EachLeaves w × ComesAloneAt after

-- And so the main pass and the users of all seats.
abbrev pub CanStillLeave : Knowing → Knowing → List Seat → List Seat → Type 0
CanStillLeave v w befores afters = CanAllLeave v befores → CanAllLeave w afters

-- no session is there, and all buffers are free
pub record AllHaveLeft (pool : ℕ) (history : List Entry) : Type 0 where
  pub sessions : (world_of pool history).sessions ≡ []
  pub free : free_count (world_of pool history) ≡ pool

-- what a pass knows that has become of two
abbrev pub KnowsBoth : Knowing → Knowing → Knowing → Type 0
KnowsBoth joined v w = Knows root_of joined.seen v.seen v.mine × Knows root_of joined.seen w.seen w.mine

-- Users that do not come.

-- a task with which a user does not leave
abbrev pub KeepsSession : Task → Type 0
KeepsSession Depart = ⊥
KeepsSession _ = Unit {0}

-- it has nothing to do that says that it comes, or it has a session and nothing that ends it
abbrev pub ComesNoMore : Machine → Type 0
ComesNoMore user =
    AllByRecursion NeedsSession user.tasks ⊎ ((session : SessionId) × ((user.session ≡ Some session) × AllByRecursion KeepsSession user.tasks))

-- the entry of this number is no Enter
pub record IsNoEnter (history : List Entry) (number : ℕ) : Type 0 where
  pub entry : Entry
  pub there : slice_get history (number - 1) ≡ Some entry
  pub enters_not : is_coming entry ≡ false

-- The laws.

-- where a pass has made all entries, and each session that came has left, none is there
abbrev pub AllLeave : Type 0
AllLeave =
    (pool : ℕ) (history : List Entry) (main : Knowing)
    → IsLegal pool history → HasAll history main.seen main.mine → EachLeaves main → AllHaveLeft pool history

-- the turns of a user that does not come bring no session
abbrev pub TurnsEnterNot : Type 0
TurnsEnterNot =
    (pool : ℕ) (history : List Entry) (first : Machine) (numbers : List ℕ) (after : Machine)
    → TakesTurns pool history first numbers after → ComesNoMore first → AllByRecursion (IsNoEnter history) numbers

-- no line says that its user leaves
pub record ActsKeepSession (records : List ℕ → List (List ℕ)) : Type 0 where
  pub act : (act : Act) → AllByRecursion KeepsSession (tasks_of records act)
  pub line : (act : Act) → AllByRecursion KeepsSession (tasks_of records act ++ EndLine ∷ [])
  pub lines : (acts : List Act) → AllByRecursion KeepsSession (tasks_of_lines records acts)

abbrev pub LinesKeepSession : Type 0
LinesKeepSession = (records : List ℕ → List (List ℕ)) → ActsKeepSession records

-- A user's pass.

-- a session that is there is the one that has come by the entries of its pass
abbrev pub ComerIsThere : Type 0
ComerIsThere = (session : ℕ) (s : SessionState) → IsThere None s → OnlyComes session s.knows → s.id ≡ session

abbrev pub EnteredComesAlone : Type 0
EnteredComesAlone =
    (fabric : Fabric) (began : Knowing) (number : ℕ) (p : PlayerState)
    → began.mine ≡ [] → HasEntered fabric began number p → ComesAlone p.session

-- one whose Enter was refused has made nothing
abbrev pub RefusedMakesNothing : Type 0
RefusedMakesNothing =
    (fixed : Fixed) (began knows : Knowing) (number : ℕ) (fault : StepFault)
    → began.mine ≡ [] → IsRefused fixed began knows (Enter number) fault → knows.mine ≡ []

abbrev pub DoerComesAlone : Type 0
DoerComesAlone =
    (p q : PlayerState) (tasks : List Task) → IsThere None q.session → AllByRecursion KeepsSession tasks
    → Does p q tasks → ComesAlone p.session → ComesAlone q.session

abbrev pub StoppedComesAlone : Type 0
StoppedComesAlone =
    (p q : PlayerState) (tasks : List Task) (fault : StepFault) → IsThere None q.session → AllByRecursion KeepsSession tasks
    → Stops p q tasks fault → ComesAlone p.session → ComesAlone q.session

-- whether this fault has stopped it, or none has
abbrev pub RunnerComesAlone : Type 0
RunnerComesAlone =
    (p q : PlayerState) (tasks : List Task) (stop : Option StepFault) → IsThere None q.session → AllByRecursion KeepsSession tasks
    → (stop ≡ None → Does p q tasks) → ((fault : StepFault) → stop ≡ Some fault → Stops p q tasks fault)
    → ComesAlone p.session → ComesAlone q.session

-- one whose pass is cut in two
abbrev pub ForkedComesAlone : Type 0
ForkedComesAlone =
    (p q : PlayerState) → q ≡ record p { session = record p.session { knows = kept_view p.session.knows } }
    → ComesAlone p.session → ComesAlone q.session

-- that takes in a pass that has made nothing
abbrev pub MeetingComesAlone : Type 0
MeetingComesAlone =
    (p q : PlayerState) (other : Knowing) → q ≡ record p { session = record p.session { knows = joined_view p.session.knows other } }
    → KnowsBoth q.session.knows p.session.knows other → other.mine ≡ [] → ComesAlone p.session → ComesAlone q.session

-- or has seen more in any other way
abbrev pub LearnerComesAlone : Type 0
LearnerComesAlone =
    (p q : PlayerState) → IsSame p q → q.session.knows.mine ≡ p.session.knows.mine → IsPrefix p.session.knows.seen q.session.knows.seen
    → ComesAlone p.session → ComesAlone q.session

-- The main pass.

abbrev pub NobodyHasCome : Type 0
NobodyHasCome = (main : Knowing) → main.mine ≡ [] → EachLeaves main

abbrev pub ForkedEachLeaves : Type 0
ForkedEachLeaves = (main next : Knowing) → next ≡ kept_view main → EachLeaves main → EachLeaves next

abbrev pub MetEachLeaves : Type 0
MetEachLeaves =
    (main other joined : Knowing) → joined ≡ joined_view main other → KnowsBoth joined main other → other.mine ≡ []
    → EachLeaves main → EachLeaves joined

abbrev pub LearnedEachLeaves : Type 0
LearnedEachLeaves =
    (main next : Knowing) → next.mine ≡ main.mine → IsPrefix main.seen next.seen → EachLeaves main → EachLeaves next

-- it takes in the pass of a session that has left
abbrev pub LeaverEachLeaves : Type 0
LeaverEachLeaves =
    (s : SessionState) (left main joined : Knowing) → joined ≡ joined_view main left → KnowsBoth joined main left
    → IsLeft s left → ComesAlone s → EachLeaves main → EachLeaves joined

-- The main pass and all seats.

abbrev pub BeginsToLeave : Type 0
BeginsToLeave = (main : Knowing) (count : ℕ) → main.mine ≡ [] → CanAllLeave main (replicate count Away)

-- one seat after another
abbrev pub SeatCanLeave : Type 0
SeatCanLeave =
    (main next : Knowing) (seats : List Seat) (place : ℕ) (after : Seat)
    → EachLeaves next → ComesAloneAt after → CanAllLeave main seats → CanAllLeave next (slice_set seats place after)

-- or all at once
abbrev pub SeatsCanLeave : Type 0
SeatsCanLeave =
    (main next : Knowing) (befores afters : List Seat) → length afters ≡ length befores → EachLeaves next
    → ((place : ℕ) (before after : Seat) → slice_get befores place ≡ Some before → slice_get afters place ≡ Some after → ComesAloneAt before → ComesAloneAt after)
    → CanAllLeave main befores → CanAllLeave next afters
