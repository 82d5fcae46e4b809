-- How far a user of a script has come: its session's entries are the calls of its machine.
use Rattle.std.specs.Prelude.{ℕ, Bool, true, false, ◌≡◌, List, ◌∷◌, ◌++◌, length, take, Some}
use mathlib.Core.List.{IsPrefix}
use Rattle.nm_turn.specs.Numbered.{numbers}
use Rattle.nm_types.specs.declared.fault.StepFault.{StepFault}
use Rattle.nm_types.specs.declared.fault.StepFault.TheVariants.{RecordFull, NoMemory}
use Rattle.vale_entry.specs.declared.entry.Ask.{Ask}
use Rattle.vale_entry.specs.declared.entry.Entry.{Entry}
use Rattle.vale_entry.specs.declared.entry.Reply.{Reply}
use Rattle.vale_entry.specs.Laws.{Rise}
use Rattle.vale_entry.specs.Legal.{standing_of}
use Rattle.vale_own.specs.Own.{own_of, is_settled_own}
use Rattle.vale_book.specs.Recorded.{IsRefusal}
use Rattle.vale_fabric.specs.declared.kept.Fixed.{Fixed}
use Rattle.vale_fabric.specs.Fabrics.{Knowing, entry_by, seen_in}
use Rattle.nm_user.specs.Sessions.{SessionState}
use Rattle.vale_replay.specs.Tasks.{Task, PutFrame, SendFrames, TakeFrames}
use Rattle.vale_replay.specs.Machine.{Machine, resting, with_tasks}
use Rattle.vale_replay.specs.Replay.{PlaysUser, TakesTurns, last_of}
use Rattle.vale_replay.specs.Stops.{StopsUser}

-- the machine is that of the session's user: it has the session, and what that has on its own side
pub record IsUserOf (s : SessionState) (user : Machine) : Type 0 where
  pub session : user.session ≡ Some (record { 0 = s.id })
  pub own : user.own ≡ s.own

-- the entries that a pass has made since it knew so much are a user's turns, from one state to another
pub record Works (pool : ℕ) (began knows : Knowing) (first after : Machine) : Type 0 where
  pub added : List (ℕ × Entry)
  pub mine : knows.mine ≡ began.mine ++ added
  pub begins : IsPrefix began.seen knows.seen
  pub part : knows.part ≡ began.part
  pub rise : Rise (length began.seen) (numbers added) (length knows.seen)
  pub turns : TakesTurns pool knows.seen first (numbers added) after

-- By them the session's user has come from `first` to `now`, where it may have something to do that
-- needs no call. Behind the last of them, or before all entries where there is none, it had neither an
-- offer nor a lease.
pub record HasCome (began : Knowing) (first : Machine) (s : SessionState) (now : Machine) : Type 0 where
  pub user : IsUserOf s now
  pub works : Works s.fixed.pool began s.knows first (resting now)
  pub settled : is_settled_own (own_of s.id (standing_of s.fixed.pool (take (last_of (numbers works.added)) s.knows.seen))) ≡ true

-- by them a user has played its lines
pub record HasWorked (pool : ℕ) (began knows : Knowing) (first after : Machine) : Type 0 where
  pub works : Works pool began knows first after
  pub plays : PlaysUser pool knows.seen first (numbers works.added) after

-- the record has no room for the user's next call, in all that its pass has seen
pub record IsRefusedCall (fixed : Fixed) (knows : Knowing) (numbers : List ℕ) (after : Machine) (fault : StepFault) : Type 0 where
  pub call : Ask
  pub stops : StopsUser fixed.pool knows.seen (length knows.seen) call numbers after
  pub refusal : IsRefusal (seen_in fixed knows) call fault

-- a full record stops a user at its next call; want of memory may stop it anywhere
abbrev pub IsStopBy : Fixed → Knowing → List ℕ → Machine → StepFault → Type 0
IsStopBy fixed knows numbers after (RecordFull what used want) = IsRefusedCall fixed knows numbers after (RecordFull what used want)
IsStopBy fixed knows numbers after NoMemory = Unit {0}

-- or has stopped by this fault
pub record HasStopped (fixed : Fixed) (began knows : Knowing) (first : Machine) (fault : StepFault) : Type 0 where
  pub after : Machine
  pub works : Works fixed.pool began knows first after
  pub stop : IsStopBy fixed knows (numbers works.added) after fault

-- the user behind the entry of its task's call, of this number, which made this of its session
abbrev pub behind_entry : SessionState → ℕ → Ask → Reply → Machine → Machine
behind_entry t number ask reply now =
    with_tasks number (entry_by t.id ask reply) (record now { own = t.own }) now.tasks

-- which is the last that the session has seen
abbrev pub behind_call : SessionState → Ask → Reply → Machine → Machine
behind_call t ask reply now = behind_entry t (length t.knows.seen) ask reply now

-- the user's next task is one whose call is a sync
abbrev pub does_sync : List Task → Bool
does_sync (PutFrame name bytes ∷ rest) = true
does_sync (SendFrames name ∷ rest) = true
does_sync (TakeFrames name ∷ rest) = true
does_sync _ = false
