-- Laws of users at work, as statements.
use Rattle.std.specs.Prelude.{ℕ, true, ◌≡◌, List, [], ◌∷◌, length, Some, None}
use Rattle.std.specs.List.{AllByRecursion}
use mathlib.Core.List.{IsPrefix}
use Rattle.nm_turn.specs.Numbered.{numbers}
use Rattle.nm_types.specs.declared.fault.StepFault.{StepFault}
use Rattle.nm_types.specs.declared.fault.StepFault.TheVariants.{NoMemory}
use Rattle.nm_types.specs.OwnPorts.{empty_own, port_with_name}
use Rattle.vale_entry.specs.declared.entry.Ask.{Ask}
use Rattle.vale_entry.specs.declared.entry.Ask.TheVariants.{Enter}
use Rattle.vale_entry.specs.declared.entry.Entry.{Entry}
use Rattle.vale_entry.specs.declared.entry.Reply.{Reply}
use Rattle.vale_entry.specs.declared.entry.Reply.TheVariants as replies
use Rattle.vale_entry.specs.Legal.{standing_of, world_of, IsLegal}
use Rattle.vale_own.specs.Own.{own_of}
use Rattle.vale_fabric.specs.declared.kept.Fixed.{Fixed}
use Rattle.vale_fabric.specs.declared.settling.Shares.{Shares}
use Rattle.vale_fabric.specs.Fabrics.{Knowing, Answers}
use Rattle.vale_fabric.specs.Settling.{settling_ask}
use Rattle.nm_user.specs.Sessions.{SessionState, IsThere}
use Rattle.nm_user.specs.Calls.{Made, MadeNone, IsRefused}
use Rattle.nm_user.specs.Syncs.{Synced}
use Rattle.nm_user.specs.declared.leaving.Detached.{Detached}
use Rattle.nm_user.specs.Leaving.{IsDetached, IsLeft}
use Rattle.vale_replay.specs.Tasks.{Task, Arrive, ShutPort, FinishPort, Depart}
use Rattle.vale_replay.specs.Machine.{Machine, closing_tasks, settling_call, call_of_task, call_of_tasks, after_task, resting}
use Rattle.vale_replay.specs.Joined.{IsWithin}
use Rattle.vale_replay.specs.Replay.{PlaysUser, ReplaysUser}
use Rattle.vale_replay.specs.Stops.{StopsUser}
use Rattle.vale_player.specs.Users.{IsUserOf, Works, HasCome, HasWorked, HasStopped, IsRefusedCall, behind_call, behind_entry, does_sync}

-- what settles a user's session next is told by what is the session's own, as the fabric tells it
abbrev pub SettlingIsOwn : Type 0
SettlingIsOwn =
    (pool : ℕ) (past : List Entry) (session : ℕ) → IsLegal pool past
    → settling_call (world_of pool past) (record { 0 = session }) ≡ settling_ask (own_of session (standing_of pool past))

-- a user that has a session begins its lines without an entry
abbrev pub UserBegins : Type 0
UserBegins = (s : SessionState) (user : Machine) → IsUserOf s user → HasCome s.knows (resting user) s user

-- one that has none and has to come begins with its Enter
abbrev pub UserEnters : Type 0
UserEnters =
    (began : Knowing) (s : SessionState) (user : Machine) (rest : List Task)
    → IsThere None s → Answers s.fixed began s.knows (Enter user.number) replies.Made
    → s.id ≡ length s.knows.seen → s.own ≡ empty_own s.fixed.pool
    → user.session ≡ None → user.own ≡ empty_own s.fixed.pool → user.tasks ≡ Arrive ∷ rest
    → HasCome began (resting user) s (record user { session = Some (record { 0 = s.id }); tasks = rest })

-- the call of its next task, made as one entry, takes it to where that entry leads
abbrev pub CallIsTurn : Type 0
CallIsTurn =
    (s t : SessionState) (began : Knowing) (first now : Machine) (ask : Ask) (reply : Reply)
    → IsThere None s → IsThere None t → HasCome began first s now
    → call_of_tasks now now.tasks ≡ Some ask → Made s t ask reply
    → HasCome began first t (behind_call t ask reply now)

-- So does a sync, with the grants and completions that settle it: the entry of the sync, and each of
-- those, is a turn.
abbrev pub SyncIsTurns : Type 0
SyncIsTurns =
    (s t : SessionState) (began : Knowing) (first now : Machine) (ask : Ask) (reply : Reply) (shares : Shares)
    → IsThere None s → IsThere None t → HasCome began first s now
    → does_sync now.tasks ≡ true → call_of_tasks now now.tasks ≡ Some ask → (synced : Synced s t ask reply shares)
    → HasCome began first t (behind_entry t synced.number ask reply now)

-- the closing of a port is two turns, its Shut and its Finish
abbrev pub DetachIsTurns : Type 0
DetachIsTurns =
    (s t : SessionState) (began : Knowing) (first now : Machine) (name : List ℕ) (rest : List Task) (id : ℕ) (told : Detached)
    → IsThere None s → IsThere None t → HasCome began first s now
    → now.tasks ≡ ShutPort name ∷ FinishPort name ∷ rest → (detached : IsDetached s t id told) → port_with_name s.own name ≡ Some detached.at.port
    → HasCome began first t (record now { own = t.own; tasks = rest })

-- a session without ports that leaves is its user's last turn
abbrev pub LeaveIsTurn : Type 0
LeaveIsTurn =
    (s : SessionState) (w began : Knowing) (first now : Machine)
    → IsThere None s → HasCome began first s now → now.tasks ≡ Depart ∷ [] → s.own.ports ≡ [] → IsLeft s w
    → HasWorked s.fixed.pool began w first (record now { session = None; tasks = [] })

-- and one that closes its ports, one after another, and leaves plays its user's closing
abbrev pub ClosingIsPlayed : Type 0
ClosingIsPlayed =
    (s : SessionState) (w began : Knowing) (first now : Machine)
    → IsThere None s → HasCome began first s now → now.tasks ≡ closing_tasks now → (left : IsLeft s w)
    → HasWorked s.fixed.pool began w first (record now { session = None; own = left.last.own; tasks = [] })

-- a task that needs no call is done without an entry
abbrev pub TaskIsDone : Type 0
TaskIsDone =
    (s : SessionState) (began : Knowing) (first now : Machine) (task : Task) (rest : List Task)
    → HasCome began first s now → now.tasks ≡ task ∷ rest → call_of_task now task ≡ None
    → HasCome began first (record s { own = (after_task task now).own }) (record (after_task task now) { tasks = rest })

-- where its pass has seen more, and made nothing, a user is where it was
abbrev pub SeesMore : Type 0
SeesMore =
    (s : SessionState) (more began : Knowing) (first now : Machine)
    → IsPrefix s.knows.seen more.seen → more.mine ≡ s.knows.mine → more.part ≡ s.knows.part → HasCome began first s now
    → HasCome began first (record s { knows = more }) now

-- and so where its call made no entry
abbrev pub RefusedStays : Type 0
RefusedStays =
    (s t : SessionState) (began : Knowing) (first now : Machine) (ask : Ask) (fault : StepFault)
    → HasCome began first s now → MadeNone s t ask fault → HasCome began first t now

-- one whose next call made no entry has stopped by that fault
abbrev pub RefusedStops : Type 0
RefusedStops =
    (s t : SessionState) (began : Knowing) (first now : Machine) (ask : Ask) (fault : StepFault)
    → IsThere None s → HasCome began first s now → call_of_tasks now now.tasks ≡ Some ask → MadeNone s t ask fault
    → HasStopped t.fixed began t.knows first fault

-- and want of memory stops one anywhere
abbrev pub MemoryStops : Type 0
MemoryStops = (s : SessionState) (began : Knowing) (first now : Machine) → HasCome began first s now → HasStopped s.fixed began s.knows first NoMemory

-- and one that has nothing more to do has played its lines
abbrev pub UserHasPlayed : Type 0
UserHasPlayed =
    (s : SessionState) (began : Knowing) (first now : Machine)
    → IsThere None s → HasCome began first s now → now.tasks ≡ []
    → HasWorked s.fixed.pool began s.knows first (resting now)

-- What a user has worked holds of every longer history, and so does where it has stopped.
abbrev pub WorkIsKept : Type 0
WorkIsKept =
    (pool : ℕ) (began knows : Knowing) (first after : Machine) (history : List Entry)
    → IsPrefix knows.seen history → (worked : HasWorked pool began knows first after)
    → PlaysUser pool history first (numbers worked.works.added) after

abbrev pub StopIsKept : Type 0
StopIsKept =
    (fixed : Fixed) (began knows : Knowing) (first : Machine) (fault : StepFault) (history : List Entry)
    → IsPrefix knows.seen history → (stopped : HasStopped fixed began knows first fault)
    → ReplaysUser fixed.pool history first (numbers stopped.works.added) stopped.after

-- the call at which a full record stopped it is the one that it comes to in every longer history
abbrev pub StoppedCallIsKept : Type 0
StoppedCallIsKept =
    (fixed : Fixed) (knows : Knowing) (numbers : List ℕ) (after : Machine) (fault : StepFault) (history : List Entry)
    → IsPrefix knows.seen history → (refused : IsRefusedCall fixed knows numbers after fault)
    → StopsUser fixed.pool history (length knows.seen) refused.call numbers after

-- and all its entries are behind those that its pass had seen when it began
abbrev pub WorkIsWithin : Type 0
WorkIsWithin =
    (pool : ℕ) (began knows : Knowing) (first after : Machine) → (works : Works pool began knows first after)
    → AllByRecursion (IsWithin (length began.seen) (length knows.seen)) (numbers works.added)

-- A user that has no session.

-- one for whose Enter there is no room, or no memory, stops before it has made an entry
abbrev pub EnterStops : Type 0
EnterStops =
    (fixed : Fixed) (began knows : Knowing) (user : Machine) (rest : List Task) (fault : StepFault)
    → user.session ≡ None → user.tasks ≡ Arrive ∷ rest → IsRefused fixed began knows (Enter user.number) fault
    → HasStopped fixed began knows (resting user) fault

-- a task of a user that has come
abbrev pub NeedsSession : Task → Type 0
NeedsSession Arrive = ⊥
NeedsSession _ = Unit {0}

-- whatever one that does not come has to do, it does nothing
abbrev pub AbsentPasses : Type 0
AbsentPasses =
    (pool : ℕ) (knows : Knowing) (user : Machine)
    → user.session ≡ None → user.own ≡ empty_own pool → AllByRecursion NeedsSession user.tasks
    → HasWorked pool knows knows (resting user) (record user { tasks = [] })
