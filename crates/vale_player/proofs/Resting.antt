-- Where a machine rests.
use Rattle.std.proofs.Common.{Bool, true, false, cond, ◌≡◌, List, [], ◌∷◌, Some, None, refl, sym, ◌∙◌, ap}
use Rattle.std.specs.Prelude.{is_some}
use Rattle.vale_entry.specs.declared.entry.Ask.{Ask}
use Rattle.vale_replay.specs.Tasks.{Task, ChangeOwn}
use Rattle.vale_replay.specs.Machine.{Machine, call_of_task, call_of_tasks, after_task, at_rest, resting}
use Rattle.vale_replay.proofs.Parts.{call-same}

rests-at : (user : Machine) (tasks : List Task) (ask : Ask) → call_of_tasks user tasks ≡ Some ask
    → at_rest user tasks ≡ record user { tasks = tasks }
rests-at user [] ask e = refl
rests-at user (task ∷ tasks) ask e =
    let some : is_some (call_of_task user task) ≡ true = ap is_some e in
    ap (λ (b : Bool). cond b (record user { tasks = task ∷ tasks }) (at_rest (after_task task user) tasks)) some

-- a machine that needs a call for its next task is at rest
pub rests : (user : Machine) (ask : Ask) → call_of_tasks user user.tasks ≡ Some ask → resting user ≡ user
rests user ask e = rests-at user user.tasks ask e

pub passes-at : (user : Machine) (task : Task) (rest : List Task) → call_of_task user task ≡ None
    → at_rest user (task ∷ rest) ≡ at_rest (after_task task user) rest
passes-at user task rest e =
    let none : is_some (call_of_task user task) ≡ false = ap is_some e in
    ap (λ (b : Bool). cond b (record user { tasks = task ∷ rest }) (at_rest (after_task task user) rest)) none

-- What a machine still has to do does not tell what a task does without a call.

after-same : (user : Machine) (old : List Task) (task : Task)
    → after_task task (record user { tasks = old }) ≡ record (after_task task user) { tasks = old }
after-same user old (ChangeOwn act) = refl
after-same user old _ = refl

at_rest-same : (user : Machine) (old tasks : List Task) → at_rest (record user { tasks = old }) tasks ≡ at_rest user tasks
at_rest-same user old [] = refl
at_rest-same user old (task ∷ tasks) =
    ap (λ (b : Bool). cond b (record user { tasks = task ∷ tasks }) (at_rest (after_task task (record user { tasks = old })) tasks)) (ap is_some (call-same user old task))
    ∙ ap (λ (m : Machine). cond (is_some (call_of_task user task)) (record user { tasks = task ∷ tasks }) m)
    (ap (λ (m : Machine). at_rest m tasks) (after-same user old task) ∙ at_rest-same (after_task task user) old tasks)

-- a task that needs no call is done on the way to where the machine rests
pub passes : (user : Machine) (task : Task) (rest : List Task) → user.tasks ≡ task ∷ rest → call_of_task user task ≡ None
    → resting (record (after_task task user) { tasks = rest }) ≡ resting user
passes user task rest has none =
    at_rest-same (after_task task user) rest rest ∙ (sym (passes-at user task rest none) ∙ ap (at_rest user) (sym has))

-- where a machine rests it rests still
rests-by : (user : Machine) (task : Task) (tasks : List Task) (b : Bool) → is_some (call_of_task user task) ≡ b
    → resting (at_rest (after_task task user) tasks) ≡ at_rest (after_task task user) tasks
    → resting (cond b (record user { tasks = task ∷ tasks }) (at_rest (after_task task user) tasks)) ≡ cond b (record user { tasks = task ∷ tasks }) (at_rest (after_task task user) tasks)
rests-by user task tasks true e rest =
    let some : is_some (call_of_task (record user { tasks = task ∷ tasks }) task) ≡ true = ap is_some (call-same user (task ∷ tasks) task) ∙ e in
    ap (λ (b : Bool). cond b (record user { tasks = task ∷ tasks }) (at_rest (after_task task (record user { tasks = task ∷ tasks })) tasks)) some
rests-by user task tasks false e rest = rest

rests-twice : (user : Machine) (tasks : List Task) → resting (at_rest user tasks) ≡ at_rest user tasks
rests-twice user [] = refl
rests-twice user (task ∷ tasks) = rests-by user task tasks (is_some (call_of_task user task)) refl (rests-twice (after_task task user) tasks)

pub rests-still : (user : Machine) → resting (resting user) ≡ resting user
rests-still user = rests-twice user user.tasks
