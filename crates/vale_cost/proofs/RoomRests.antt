-- What a user does without a call spends nothing, and puts no more than it has to put.
use Rattle.std.proofs.Common.{ℕ, ◌+◌, ◌≤◌, ◌≡◌, Bool, true, false, cond, List, [], ◌∷◌, Option, Some, None, is_some, refl, arith}
use Rattle.std.specs.Prelude.{sum_by}
use Rattle.std.specs.List.{AllByRecursion as Each}
use Rattle.std.proofs.lemmas.List.Sums.{sum_by-cons}
use Rattle.nm_types.specs.OwnPorts.{OwnPort, OwnState, port_with_name}
use Rattle.nm_types.specs.OwnEdits.{with_frame}
use Rattle.nm_types.specs.Parts.{slots_of_bytes}
use Rattle.vale_replay.specs.Edits.{change_found, changed_by}
use Rattle.vale_replay.specs.Tasks.{Task, Arrive, OpenPort, PutFrame, SendFrames, TakeFrames, ChangeOwn, SaveFrames, WatchPort, ReadCounts, ShutPort, FinishPort, Depart, EndLine, lines_left}
use Rattle.vale_replay.specs.Machine.{Machine, after_task, at_rest, call_of_task}
use Rattle.vale_cost.specs.Completeness.{Cost, Sends, Bytes, Calls, Opens, cost_of_task, waiting, left, IsPlainTask}
use Rattle.vale_cost.proofs.RoomViews.{AreTidy, AreBelow, views}
use Rattle.vale_cost.proofs.RoomEdits.{IsEdit, still-edit, act-still, frame-edit, added}

abbrev pub cost_in : Cost → List Task → ℕ
cost_in c tasks = sum_by (cost_of_task c) tasks

abbrev pub ArePlain : List Task → Type 0
ArePlain tasks = Each IsPlainTask tasks

-- what a task adds to what waits
abbrev pub added_by : Cost → Task → ℕ
added_by c (PutFrame name bytes) = added c (slots_of_bytes bytes)
added_by c _ = 0

pub adds-less : (c : Cost) (task : Task) → added_by c task ≤ cost_of_task c task
adds-less Sends (PutFrame name bytes) = omega arith
adds-less Bytes (PutFrame name bytes) = omega arith
adds-less Calls (PutFrame name bytes) = omega arith
adds-less (Opens switch) (PutFrame name bytes) = omega arith
adds-less c _ = omega arith

pub adds-no_calls : (task : Task) → added_by Calls task ≡ 0
adds-no_calls (PutFrame name bytes) = refl
adds-no_calls _ = refl

pub adds-no_opens : (switch : List ℕ) (task : Task) → added_by (Opens switch) task ≡ 0
adds-no_opens switch (PutFrame name bytes) = refl
adds-no_opens switch _ = refl

pub task-edit : (task : Task) (user : Machine) → IsPlainTask task → IsEdit user.own (after_task task user).own (λ c. added_by c task)
task-edit (PutFrame name bytes) user plain = by (port_with_name user.own name)
  where
    by : (found : Option OwnPort) → IsEdit user.own (change_found (λ id. with_frame id bytes) user.own found) (λ c. added c (slots_of_bytes bytes))
    by None = still-edit user.own user.own (λ c. added c (slots_of_bytes bytes)) refl
    by (Some p) = frame-edit p.id.0 bytes user.own
task-edit (ChangeOwn act) user plain = still-edit user.own (changed_by act user.own) (λ c. 0) (act-still act user.own plain)
task-edit _ user plain = still-edit user.own user.own (λ c. 0) refl

pub record Rests (own : OwnState) (tasks : List Task) (after : Machine) : Type 0 where
  pub back : AreTidy (views after.own) → AreTidy (views own)
  pub spends : (c : Cost) → AreTidy (views own) → left c after ≤ cost_in c tasks + waiting c own
  pub plain : ArePlain after.tasks
  pub below : (k : ℕ) → AreBelow k (views own) → AreBelow k (views after.own)

pub rests : (user : Machine) (tasks : List Task) → ArePlain tasks → Rests user.own tasks (at_rest user tasks)
rests user [] plain = record { back = λ tidy. tidy; spends = λ c tidy. omega arith; plain = tt; below = λ k b. b }
rests user (task ∷ tasks) plain = by (is_some (call_of_task user task)) (rests (after_task task user) tasks plain.1)
  where
    edit : IsEdit user.own (after_task task user).own (λ c. added_by c task)
    edit = task-edit task user plain.0

    by : (b : Bool) → Rests (after_task task user).own tasks (at_rest (after_task task user) tasks)
        → Rests user.own (task ∷ tasks) (cond b (record user { tasks = task ∷ tasks }) (at_rest (after_task task user) tasks))
    by true rest = record { back = λ tidy. tidy; spends = λ c tidy. omega arith; plain = plain; below = λ k b. b }
    by false rest = record {
      back = λ tidy. edit.back (rest.back tidy);
      spends = λ c tidy.
          let all = sum_by-cons (cost_of_task c) task tasks in
          let more = rest.spends c (edit.tidy tidy) in
          let less = edit.less c tidy in
          let few = adds-less c task in
          omega (arith, more, less, few, all);
      plain = rest.plain;
      below = λ k b. rest.below k (record { tidy = edit.tidy b.tidy; ids = edit.ids k b.ids });
    }

-- ---- what is left where a line ends early

pub record IsLeft (tasks rest : List Task) : Type 0 where
  pub costs : (c : Cost) → cost_in c rest ≤ cost_in c tasks
  pub plain : ArePlain tasks → ArePlain rest

left-behind : (task : Task) (tasks rest : List Task) → IsLeft tasks rest → IsLeft (task ∷ tasks) rest
left-behind task tasks rest is =
    record {
      costs = λ c. let all = sum_by-cons (cost_of_task c) task tasks in let less = is.costs c in omega (arith, all, less);
      plain = λ plain. is.plain plain.1;
    }

pub lines-left : (tasks : List Task) → IsLeft tasks (lines_left tasks)
lines-left [] = record { costs = λ c. omega arith; plain = λ plain. plain }
lines-left (EndLine ∷ tasks) = record { costs = λ c. omega arith; plain = λ plain. plain }
lines-left (Arrive ∷ tasks) = left-behind Arrive tasks (lines_left tasks) (lines-left tasks)
lines-left (OpenPort name tx rx extra ∷ tasks) = left-behind (OpenPort name tx rx extra) tasks (lines_left tasks) (lines-left tasks)
lines-left (PutFrame name bytes ∷ tasks) = left-behind (PutFrame name bytes) tasks (lines_left tasks) (lines-left tasks)
lines-left (SendFrames name ∷ tasks) = left-behind (SendFrames name) tasks (lines_left tasks) (lines-left tasks)
lines-left (TakeFrames name ∷ tasks) = left-behind (TakeFrames name) tasks (lines_left tasks) (lines-left tasks)
lines-left (ChangeOwn act ∷ tasks) = left-behind (ChangeOwn act) tasks (lines_left tasks) (lines-left tasks)
lines-left (SaveFrames name file ∷ tasks) = left-behind (SaveFrames name file) tasks (lines_left tasks) (lines-left tasks)
lines-left (WatchPort monitor target sides ∷ tasks) = left-behind (WatchPort monitor target sides) tasks (lines_left tasks) (lines-left tasks)
lines-left (ReadCounts name ∷ tasks) = left-behind (ReadCounts name) tasks (lines_left tasks) (lines-left tasks)
lines-left (ShutPort name ∷ tasks) = left-behind (ShutPort name) tasks (lines_left tasks) (lines-left tasks)
lines-left (FinishPort name ∷ tasks) = left-behind (FinishPort name) tasks (lines_left tasks) (lines-left tasks)
lines-left (Depart ∷ tasks) = left-behind Depart tasks (lines_left tasks) (lines-left tasks)
