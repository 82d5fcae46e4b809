-- The tasks of a user fit: those of its lines, and those with which it closes its ports and leaves.
use Rattle.std.proofs.Common.{Bool, true, false, cond, not, ℕ, zero, suc, ◌+◌, ◌-◌, ◌<◌, ◌≤◌, ◌≡◌, ◌⊎◌, inl, inr, List, [], ◌∷◌, ◌++◌, filter, find, replicate, Option, Some, None, is_some, option_map, refl, sym, ◌∙◌, ap, subst, arith}
use Rattle.std.specs.Prelude.{◌==◌, flat_map, bytes_eq}
use Rattle.std.specs.List.{AllByRecursion as Each}
use Rattle.std.proofs.lemmas.Bool.{cases_Bool, eq-eqb}
use Rattle.std.proofs.lemmas.Bool.Decides.{nat_tests}
use Rattle.std.proofs.lemmas.Option.{same_Some}
use Rattle.std.proofs.lemmas.Slice.Eq.{bytes_eq-Decides}
use Rattle.nm_types.specs.OwnPorts.{OwnPort, OwnState, port_with_name}
use Rattle.nm_types.specs.OwnEdits.{with_frame, with_forwarded, with_extra_link, with_positions, with_slots_swapped, with_all_back}
use Rattle.vale_entry.specs.Legal.{fits_u32}
use Rattle.vale_entry.specs.OwnCalls.{finish_call}
use Rattle.vale_entry.proofs.Each.{each-append}
use Rattle.vale_script.specs.declared.script.Act.{Act}
use Rattle.vale_script.specs.declared.script.Act.TheVariants as acts
use Rattle.vale_script.specs.declared.script.SlotField.{SlotField}
use Rattle.vale_script.specs.declared.script.SlotField.TheVariants.{Idx, Len, Flags, Ptr}
use Rattle.vale_script.specs.Sound.{IsNumber, most_of}
use Rattle.vale_replay.specs.Edits.{change_found, at_port, field_written, poked, changed_by}
use Rattle.vale_replay.specs.Machine.{Machine, call_of_task, after_task, at_rest, closing_of, closing_tasks}
use Rattle.vale_replay.specs.MayCall.{TaskFits, FirstFits, LeavesWithout, HasFit}
use Rattle.vale_replay.specs.Tasks.{Task, PutFrame, SendFrames, TakeFrames, ChangeOwn, ShutPort, FinishPort, Depart, EndLine, lines_left, fits_to_play, frame_of_put, played_before_sync, tasks_of, tasks_of_line, tasks_of_lines}
use Rattle.vale_replay.proofs.FitRings.{IsFit, WriteFits, ports-fit, positions-fit, all_back-fit, field-fit, swapped-fit, frame-fit, forwarded-fit, linked-fit}
use Rattle.vale_replay.proofs.FitScripts.{FitsAct}

-- what a line changes
abbrev pub ChangeFits : Act → Type 0
ChangeFits (acts.Poke name side slot field value) = value ≤ most_of field
ChangeFits (acts.Move name side head cur) = IsNumber head × IsNumber cur
ChangeFits _ = Unit {0}

-- a task of a line
abbrev pub IsLineTask : Task → Type 0
IsLineTask (ChangeOwn act) = ChangeFits act
IsLineTask Depart = ⊥
IsLineTask task = TaskFits task

-- the tasks of an end: ports are shut and finished, and then the user leaves
abbrev pub AreClosing : List Task → Type 0
AreClosing [] = Unit {0}
AreClosing (ShutPort name ∷ tasks) = AreClosing tasks
AreClosing (FinishPort name ∷ tasks) = AreClosing tasks
AreClosing (Depart ∷ tasks) = tasks ≡ []
AreClosing (_ ∷ tasks) = ⊥

abbrev once : Bool → ℕ
once b = cond b 1 0

abbrev pub times_named : List ℕ → List OwnPort → ℕ
times_named name [] = 0
times_named name (p ∷ ports) = once (bytes_eq name p.name) + times_named name ports

abbrev pub times_finished : List ℕ → List Task → ℕ
times_finished name [] = 0
times_finished name (FinishPort other ∷ tasks) = once (bytes_eq name other) + times_finished name tasks
times_finished name (_ ∷ tasks) = times_finished name tasks

-- as many ports are finished as have a name
pub record Closes (ports : List OwnPort) (tasks : List Task) : Type 0 where
  pub closing : AreClosing tasks
  pub enough : (name : List ℕ) → times_named name ports ≤ times_finished name tasks

abbrev pub AreFit : List OwnPort → List Task → Type 0
AreFit ports tasks = Each IsLineTask tasks ⊎ Closes ports tasks

pub record FitsUser (user : Machine) : Type 0 where
  pub own : IsFit user.own
  pub tasks : AreFit user.own.ports user.tasks

-- What that says of the next task.

line-fits : (task : Task) → IsLineTask task → TaskFits task
line-fits (ChangeOwn act) fit = tt
line-fits Depart fit = absurd fit
line-fits _ fit = fit

first-fits : (ports : List OwnPort) (tasks : List Task) → AreFit ports tasks → FirstFits tasks
first-fits ports [] fit = tt
first-fits ports (task ∷ tasks) (inl all) = line-fits task all.0
first-fits ports (ShutPort name ∷ tasks) (inr closes) = tt
first-fits ports (FinishPort name ∷ tasks) (inr closes) = tt
first-fits ports (Depart ∷ tasks) (inr closes) = tt
first-fits ports (_ ∷ tasks) (inr closes) = absurd closes.closing

none-named : (ports : List OwnPort) → ((name : List ℕ) → times_named name ports ≤ 0) → ports ≡ []
none-named [] none = refl
none-named (p ∷ ports) none =
    let here : bytes_eq p.name p.name ≡ true = (bytes_eq-Decides p.name p.name).1 refl in
    let one : once (bytes_eq p.name p.name) ≡ 1 = ap once here in
    let all = none p.name in
    absurd (omega (arith, one, all))

leaves-without : (ports : List OwnPort) (tasks : List Task) → AreFit ports tasks → LeavesWithout ports tasks
leaves-without ports (Depart ∷ tasks) (inl all) = absurd all.0
leaves-without ports (Depart ∷ tasks) (inr closes) =
    none-named ports (λ name. let all = closes.enough name in let last = ap (times_finished name) closes.closing in omega (arith, all, last))
leaves-without ports _ fit = tt

pub has-fit : (user : Machine) → FitsUser user → HasFit user
has-fit user fit = record { ports = ports-fit user.own.ports fit.own; task = first-fits user.own.ports user.tasks fit.tasks; leaves = leaves-without user.own.ports user.tasks fit.tasks }

-- What needs no call.

at-fit : (name : List ℕ) (change : ℕ → OwnState → OwnState) → ((id : ℕ) (s : OwnState) → IsFit s → IsFit (change id s)) → (s : OwnState) → IsFit s → IsFit (at_port name change s)
at-fit name change keeps s fit = by (port_with_name s name)
  where
    by : (o : Option OwnPort) → IsFit (change_found change s o)
    by None = fit
    by (Some p) = keeps p.id.0 s fit

field-fits : (field : SlotField) (value : ℕ) → value ≤ most_of field → WriteFits (field_written field value)
field-fits Idx value most = omega (arith, most)
field-fits Len value most = omega (arith, most)
field-fits Flags value most = tt
field-fits Ptr value most = tt

act-fit : (act : Act) → ChangeFits act → (s : OwnState) → IsFit s → IsFit (changed_by act s)
act-fit (acts.Rx name keep) ok s fit = at-fit name with_all_back all_back-fit s fit
act-fit (acts.Fwd from to count) ok s fit =
    at-fit from (λ id. at_port to (with_forwarded count id)) (λ id t here. at-fit to (with_forwarded count id) (λ other u there. forwarded-fit count id other u there) t here) s fit
act-fit (acts.Poke name side slot field value) ok s fit =
    at-fit name (poked side slot field value) (λ id t here. field-fit side id slot (field_written field value) t (field-fits field value ok) here) s fit
act-fit (acts.Move name side head cur) ok s fit =
    at-fit name (λ id. with_positions side id head cur) (λ id t here. let one = ok.0 in let two = ok.1 in positions-fit side id head cur t (omega (arith, one)) (omega (arith, two)) here) s fit
act-fit (acts.Swap name side slot other other_side other_slot quiet) ok s fit =
    at-fit name (λ id. at_port other (λ other_id. with_slots_swapped (not quiet) (record { side = side; port = id; at = slot }) (record { side = other_side; port = other_id; at = other_slot })))
    (λ id t here. at-fit other (λ other_id. with_slots_swapped (not quiet) (record { side = side; port = id; at = slot }) (record { side = other_side; port = other_id; at = other_slot }))
    (λ other_id u there. swapped-fit (not quiet) (record { side = side; port = id; at = slot }) (record { side = other_side; port = other_id; at = other_slot }) u there) t here) s fit
act-fit (acts.Extra name i j) ok s fit = at-fit name (λ id. with_extra_link id i j) (λ id t here. linked-fit id i j t here) s fit
act-fit _ ok s fit = fit

after-fit : (task : Task) (user : Machine) → IsLineTask task → IsFit user.own → IsFit (after_task task user).own
after-fit (PutFrame name bytes) user ok fit = at-fit name (λ id. with_frame id bytes) (λ id t here. frame-fit id bytes t here) user.own fit
after-fit (ChangeOwn act) user ok fit = act-fit act ok user.own fit
after-fit _ user ok fit = fit

-- a name that no port has
unnamed : (name : List ℕ) (ports : List OwnPort) → is_some (find (λ (p : OwnPort). bytes_eq name p.name) ports) ≡ false → times_named name ports ≡ 0
unnamed name [] none = refl
unnamed name (p ∷ ports) none = by (bytes_eq name p.name) none (unnamed name ports)
  where
    by : (b : Bool) → is_some (cond b (Some p) (find (λ (q : OwnPort). bytes_eq name q.name) ports)) ≡ false
        → (is_some (find (λ (q : OwnPort). bytes_eq name q.name) ports) ≡ false → times_named name ports ≡ 0) → once b + times_named name ports ≡ 0
    by true e rest = absurd cc
    by false e rest = let none-of = rest e in omega (arith, none-of)

-- a finish of a name that no port has
finish-none : (name : List ℕ) (ports : List OwnPort) (tasks : List Task) → times_named name ports ≡ 0 → Closes ports (FinishPort name ∷ tasks) → Closes ports tasks
finish-none name ports tasks none closes = record { closing = closes.closing; enough = λ other. by other (cases_Bool (bytes_eq other name)) }
  where
    by : (other : List ℕ) → ((bytes_eq other name ≡ true) ⊎ (bytes_eq other name ≡ false)) → times_named other ports ≤ times_finished other tasks
    by other (inl e) =
        let same = (bytes_eq-Decides other name).0 e in
        let zero-of : times_named other ports ≡ 0 = ap (λ (n : List ℕ). times_named n ports) same ∙ none in
        omega (arith, zero-of)
    by other (inr e) = let all = closes.enough other in let here = ap once e in omega (arith, all, here)

is-mapped : {X Y : Type 0} (f : X → Y) (o : Option X) → is_some (option_map f o) ≡ false → is_some o ≡ false
is-mapped f None e = refl
is-mapped f (Some x) e = absurd cc

tasks-pass : (user : Machine) (task : Task) (tasks : List Task) → is_some (call_of_task user task) ≡ false → Closes user.own.ports (task ∷ tasks) → Closes user.own.ports tasks
tasks-pass user (ShutPort name) tasks none closes = record { closing = closes.closing; enough = λ other. closes.enough other }
tasks-pass user (FinishPort name) tasks none closes =
    finish-none name user.own.ports tasks (unnamed name user.own.ports (is-mapped (finish_call user.own) (port_with_name user.own name) none)) closes
tasks-pass user Depart tasks none closes = record { closing = subst AreClosing (sym closes.closing) tt; enough = λ other. closes.enough other }
tasks-pass user _ tasks none closes = absurd closes.closing

closing-still : (user : Machine) (task : Task) (tasks : List Task) → AreClosing (task ∷ tasks) → after_task task user ≡ user
closing-still user (ShutPort name) tasks closing = refl
closing-still user (FinishPort name) tasks closing = refl
closing-still user Depart tasks closing = refl
closing-still user _ tasks closing = absurd closing

pub rest-fits : (user : Machine) (tasks : List Task) → IsFit user.own → AreFit user.own.ports tasks → FitsUser (at_rest user tasks)
rest-fits user [] fit are = record { own = fit; tasks = are }
rest-fits user (task ∷ tasks) fit are =
    by (is_some (call_of_task user task)) refl are (λ own all. rest-fits (after_task task user) tasks own all) (λ all. rest-fits user tasks fit all)
  where
    by : (b : Bool) → is_some (call_of_task user task) ≡ b → AreFit user.own.ports (task ∷ tasks)
        → (IsFit (after_task task user).own → AreFit (after_task task user).own.ports tasks → FitsUser (at_rest (after_task task user) tasks))
        → (AreFit user.own.ports tasks → FitsUser (at_rest user tasks))
        → FitsUser (cond b (record user { tasks = task ∷ tasks }) (at_rest (after_task task user) tasks))
    by true e all goes stays = record { own = fit; tasks = all }
    by false e (inl all) goes stays = goes (after-fit task user all.0 fit) (inl all.1)
    by false e (inr closes) goes stays =
        subst (λ (u : Machine). FitsUser (at_rest u tasks)) (sym (closing-still user task tasks closes.closing)) (stays (inr (tasks-pass user task tasks e closes)))

-- The tasks of lines.

left-fit : (tasks : List Task) → Each IsLineTask tasks → Each IsLineTask (lines_left tasks)
left-fit [] all = tt
left-fit (EndLine ∷ tasks) all = all
left-fit (_ ∷ tasks) all = left-fit tasks all.1

pub left_if-fit : (b : Bool) (rest other : List Task) → Each IsLineTask rest → Each IsLineTask other → Each IsLineTask (cond b (lines_left rest) other)
left_if-fit true rest other all next = left-fit rest all
left_if-fit false rest other all next = next

copies-fit : (count : ℕ) (name bytes : List ℕ) → Each IsLineTask (replicate count (PutFrame name bytes))
copies-fit zero name bytes = tt
copies-fit (suc count) name bytes = (tt, copies-fit count name bytes)

last-fit : (b : Bool) (name : List ℕ) → Each IsLineTask (cond b [] (SendFrames name ∷ []))
last-fit true name = tt
last-fit false name = (tt, tt)

played-fit : (name : List ℕ) (batch left : ℕ) (frames : List (List ℕ)) → Each IsLineTask (played_before_sync name batch left frames)
played-fit name batch left [] = last-fit (left == batch) name
played-fit name batch left (bytes ∷ frames) = by (left == 1) (played-fit name batch batch frames) (played-fit name batch (left - 1) frames)
  where
    by : (b : Bool) → Each IsLineTask (played_before_sync name batch batch frames) → Each IsLineTask (played_before_sync name batch (left - 1) frames)
        → Each IsLineTask (cond b (PutFrame name bytes ∷ SendFrames name ∷ played_before_sync name batch batch frames) (PutFrame name bytes ∷ played_before_sync name batch (left - 1) frames))
    by true synced more = (tt, (tt, synced))
    by false synced more = (tt, more)

received-fit : (name : List ℕ) (keep b : Bool) → Each IsLineTask (cond b (TakeFrames name ∷ []) (ChangeOwn (acts.Rx name keep) ∷ TakeFrames name ∷ []))
received-fit name keep true = (tt, tt)
received-fit name keep false = (tt, (tt, tt))

number-fits : (n : ℕ) → IsNumber n → fits_u32 n ≡ true
number-fits n most = word n (omega (arith, most))
  where
    word : (k : ℕ) → k < 4294967296 → fits_u32 k ≡ true
    word k less = grind (arith, nat_tests)

act-tasks : (records : List ℕ → List (List ℕ)) (act : Act) → FitsAct act → Each IsLineTask (tasks_of records act)
act-tasks records acts.Enter fit = (tt, tt)
act-tasks records (acts.Open name tx rx extra) fit =
    let is = fit.sound in
    (record { named = is.0; tx_fits = number-fits tx is.1; rx_fits = number-fits rx is.2; extra_fits = number-fits extra is.3 }, tt)
act-tasks records (acts.Put name count to from len fill) fit = copies-fit count name (frame_of_put to from len fill)
act-tasks records (acts.Hex name frame) fit = (tt, tt)
act-tasks records (acts.Play name file batch) fit = played-fit name batch batch (filter (fits_to_play name) (records file))
act-tasks records (acts.Tx name) fit = (tt, tt)
act-tasks records (acts.Rx name keep) fit = received-fit name keep keep
act-tasks records (acts.Fwd from to count) fit = (tt, tt)
act-tasks records (acts.Poke name side slot field value) fit = (let is = fit.sound in is.1, tt)
act-tasks records (acts.Move name side head cur) fit = (let is = fit.sound in (is.1, is.2), tt)
act-tasks records (acts.Swap name side slot other other_side other_slot quiet) fit = (tt, tt)
act-tasks records (acts.Extra name i j) fit = (tt, tt)
act-tasks records (acts.Watch monitor target sides) fit = (let watch = fit.watch in let is = fit.sound in record { by_monitor = watch.0; named = is.1; no_monitor = watch.1 }, tt)
act-tasks records (acts.Stat name) fit = (tt, tt)
act-tasks records (acts.Save name file) fit = (tt, tt)
act-tasks records (acts.Close name) fit = (tt, (tt, tt))

pub lines-tasks : (records : List ℕ → List (List ℕ)) (lines : List Act) → Each FitsAct lines → Each IsLineTask (tasks_of_lines records lines)
lines-tasks records [] all = tt
lines-tasks records (act ∷ lines) all =
    each-append IsLineTask (tasks_of_line records act) (tasks_of_lines records lines)
    (each-append IsLineTask (tasks_of records act) (EndLine ∷ []) (act-tasks records act all.0) (tt, tt)) (lines-tasks records lines all.1)

-- The tasks of an end.

ports-close : (ports : List OwnPort) → Closes ports (flat_map closing_of ports ++ Depart ∷ [])
ports-close [] = record { closing = refl; enough = λ name. omega arith }
ports-close (p ∷ ports) =
    let rest = ports-close ports in
    record { closing = rest.closing; enough = λ name. let all = rest.enough name in omega (arith, all) }

pub closing-fits : (user : Machine) → Closes user.own.ports (closing_tasks user)
closing-fits user = ports-close user.own.ports

-- a port that is finished is gone
filtered : (name : List ℕ) (id : ℕ) (ports : List OwnPort) → times_named name (filter (λ (p : OwnPort). not (p.id.0 == id)) ports) ≤ times_named name ports
filtered name id [] = omega arith
filtered name id (p ∷ ports) = by (not (p.id.0 == id)) (filtered name id ports)
  where
    by : (b : Bool) → times_named name (filter (λ (q : OwnPort). not (q.id.0 == id)) ports) ≤ times_named name ports
        → times_named name (cond b (p ∷ filter (λ (q : OwnPort). not (q.id.0 == id)) ports) (filter (λ (q : OwnPort). not (q.id.0 == id)) ports)) ≤ once (bytes_eq name p.name) + times_named name ports
    by true less = omega (arith, less)
    by false less = omega (arith, less)

one-less : (name : List ℕ) (ports : List OwnPort) (p : OwnPort) → find (λ (q : OwnPort). bytes_eq name q.name) ports ≡ Some p
    → times_named name (filter (λ (q : OwnPort). not (q.id.0 == p.id.0)) ports) + 1 ≤ times_named name ports
one-less name [] p found = absurd cc
one-less name (q ∷ ports) p found = by_name (bytes_eq name q.name) refl found (λ is. one-less name ports p is)
  where
    gone : List OwnPort
    gone = filter (λ (r : OwnPort). not (r.id.0 == p.id.0)) ports

    here : q ≡ p → times_named name (cond (not (q.id.0 == p.id.0)) (q ∷ gone) gone) ≡ times_named name gone
    here same =
        let at : (q.id.0 == p.id.0) ≡ true = eq-eqb q.id.0 p.id.0 (ap (λ (r : OwnPort). r.id.0) same) in
        ap (λ (b : Bool). times_named name (cond (not b) (q ∷ gone) gone)) at

    by_name : (b : Bool) → bytes_eq name q.name ≡ b → cond b (Some q) (find (λ (r : OwnPort). bytes_eq name r.name) ports) ≡ Some p
        → (find (λ (r : OwnPort). bytes_eq name r.name) ports ≡ Some p → times_named name gone + 1 ≤ times_named name ports)
        → times_named name (cond (not (q.id.0 == p.id.0)) (q ∷ gone) gone) + 1 ≤ once (bytes_eq name q.name) + times_named name ports
    by_name true e is rest =
        let first = here (same_Some q p is) in
        let less = filtered name p.id.0 ports in
        let one = ap once e in
        omega (arith, first, less, one)
    by_name false e is rest =
        let less = rest is in
        let none = ap once e in
        let most = by_id (not (q.id.0 == p.id.0)) in
        omega (arith, less, none, most)
      where
        by_id : (b : Bool) → times_named name (cond b (q ∷ gone) gone) ≤ once (bytes_eq name q.name) + times_named name gone
        by_id true = omega arith
        by_id false = omega arith

pub finish-fits : (name : List ℕ) (ports : List OwnPort) (tasks : List Task) (p : OwnPort) → find (λ (q : OwnPort). bytes_eq name q.name) ports ≡ Some p
    → Closes ports (FinishPort name ∷ tasks) → Closes (filter (λ (q : OwnPort). not (q.id.0 == p.id.0)) ports) tasks
finish-fits name ports tasks p found closes = record { closing = closes.closing; enough = λ other. by other (cases_Bool (bytes_eq other name)) }
  where
    by : (other : List ℕ) → ((bytes_eq other name ≡ true) ⊎ (bytes_eq other name ≡ false)) → times_named other (filter (λ (q : OwnPort). not (q.id.0 == p.id.0)) ports) ≤ times_finished other tasks
    by other (inl e) =
        let same = (bytes_eq-Decides other name).0 e in
        let less = subst (λ (n : List ℕ). times_named n (filter (λ (q : OwnPort). not (q.id.0 == p.id.0)) ports) + 1 ≤ times_named n ports) (sym same) (one-less name ports p found) in
        let all = closes.enough other in
        let here = ap once e in
        omega (arith, all, here, less)
    by other (inr e) =
        let all = closes.enough other in
        let here = ap once e in
        let less = filtered other p.id.0 ports in
        omega (arith, all, here, less)
