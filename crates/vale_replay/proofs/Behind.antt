-- What a user keeps behind an entry of its own: its side, and what holds of all that it has to do.
use Rattle.std.proofs.Common.{ℕ, ◌≡◌, Bool, true, false, cond, List, [], ◌∷◌, is_some, refl}
use Rattle.std.specs.Prelude.{◌||◌, not}
use Rattle.std.specs.List.{AllByRecursion}
use Rattle.vale_entry.specs.declared.entry.Entry.{Entry}
use Rattle.vale_replay.specs.Tasks.{Task, Arrive, PutFrame, SendFrames, EndLine, lines_left}
use Rattle.vale_replay.specs.Machine.{Machine, after_task, at_rest, call_of_task, has_room_at, is_peer_gone, is_reset, with_tasks}

-- its side is the one that the entry made
pub own-on : (number : ℕ) (entry : Entry) (user : Machine) (tasks : List Task) → (with_tasks number entry user tasks).own ≡ user.own
own-on number entry user [] = refl
own-on number entry user (Arrive ∷ rest) = refl
own-on number entry user (task ∷ rest) = refl

-- ---- what holds of all that a user has to do holds of what is left of it

module _ (P : Task → Type 0) where
  pub rest-all : (user : Machine) (tasks : List Task) → AllByRecursion P tasks → AllByRecursion P (at_rest user tasks).tasks
  rest-all user [] all = tt
  rest-all user (task ∷ tasks) all = by (is_some (call_of_task user task)) (rest-all (after_task task user) tasks all.1)
    where
      by : (b : Bool) → AllByRecursion P (at_rest (after_task task user) tasks).tasks
          → AllByRecursion P (cond b (record user { tasks = task ∷ tasks }) (at_rest (after_task task user) tasks)).tasks
      by true rest = all
      by false rest = rest

  left-all : (tasks : List Task) → AllByRecursion P tasks → AllByRecursion P (lines_left tasks)
  left-all [] all = tt
  left-all (EndLine ∷ tasks) all = all
  left-all (task ∷ tasks) all = left-all tasks all.1

  pub either-all : (b : Bool) (one other : List Task) → AllByRecursion P one → AllByRecursion P other → AllByRecursion P (cond b one other)
  either-all true one other front back = front
  either-all false one other front back = back

  pub behind-all : (n : ℕ) (e : Entry) (user : Machine) (tasks : List Task) → AllByRecursion P user.tasks → AllByRecursion P tasks → AllByRecursion P (with_tasks n e user tasks).tasks
  behind-all n e user [] old all = old
  behind-all n e user (PutFrame name bytes ∷ rest) old all =
      either-all (is_reset e.ask || not (has_room_at user.own name bytes)) (lines_left rest) (PutFrame name bytes ∷ rest) (left-all rest all.1) all
  behind-all n e user (SendFrames name ∷ rest) old all =
      either-all (is_reset e.ask || is_peer_gone e.reply) (lines_left rest) rest (left-all rest all.1) all.1
  behind-all n e user (task ∷ rest) old all = all.1
