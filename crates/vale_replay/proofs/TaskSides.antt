-- What a user has on its own side is its session's, through its edits and its turns.
use Rattle.std.proofs.Common.{Bool, true, false, cond, not, ℕ, zero, suc, ◌-◌, ◌≡◌, List, [], ◌∷◌, ◌++◌, filter, Option, Some, None, is_some, refl, sym, ◌∙◌, ap, subst}
use Rattle.std.specs.Prelude.{◌==◌, replicate, flat_map}
use Rattle.nm_types.specs.declared.id.SessionId.{SessionId}
use Rattle.nm_types.specs.OwnPorts.{OwnPort, OwnState, empty_own, port_with_name}
use Rattle.nm_types.specs.OwnEdits.{with_positions, with_all_back, with_slots_swapped, with_frame, with_forwarded, with_extra_link}
use Rattle.vale_script.specs.declared.script.Act.{Act}
use Rattle.vale_script.specs.declared.script.Act.TheVariants as acts
use Rattle.vale_entry.specs.Legal.{Standing}
use Rattle.vale_own.specs.Own.{own_of}
use Rattle.vale_own.specs.Side.{IsSoundSideOf}
use Rattle.vale_own.specs.SideEdits.{KeepsSides}
use Rattle.vale_own.proofs.SideEditing.{edits-keep}
use Rattle.vale_replay.specs.Edits.{change_found, at_port, field_written, poked, changed_by}
use Rattle.vale_replay.specs.Tasks.{Task, PutFrame, SendFrames, TakeFrames, ChangeOwn, ShutPort, FinishPort, Depart, EndLine, lines_left, fits_to_play, frame_of_put, played_before_sync, tasks_of, tasks_of_line, tasks_of_lines}
use Rattle.vale_replay.specs.Machine.{Machine, call_of_task, after_task, at_rest, resting, closing_of, closing_tasks}

-- Edits.

found-keeps : (change : ℕ → OwnState → OwnState) (found : Option OwnPort)
    → ((id : ℕ) → KeepsSides (change id)) → KeepsSides (λ s. change_found change s found)
found-keeps change None keeps pool session shut own s of = of
found-keeps change (Some p) keeps pool session shut own s of = keeps p.id.0 pool session shut own s of

port-keeps : (name : List ℕ) (change : ℕ → OwnState → OwnState) → ((id : ℕ) → KeepsSides (change id))
    → KeepsSides (at_port name change)
port-keeps name change keeps pool session shut own s of =
    found-keeps change (port_with_name s name) keeps pool session shut own s of

act-keeps : (act : Act) → KeepsSides (changed_by act)
act-keeps (acts.Rx name keep) = port-keeps name with_all_back edits-keep.all_back
act-keeps (acts.Fwd from to count) =
    port-keeps from (λ id. at_port to (with_forwarded count id)) (λ id. port-keeps to (with_forwarded count id) (λ other. edits-keep.forwarded count id other))
act-keeps (acts.Poke name side slot field value) =
    port-keeps name (poked side slot field value) (λ id. edits-keep.slot_field side id slot (field_written field value))
act-keeps (acts.Move name side head cur) = port-keeps name (λ id. with_positions side id head cur) (λ id. edits-keep.positions side id head cur)
act-keeps (acts.Swap name side slot other other_side other_slot quiet) =
    port-keeps name
    (λ id. at_port other (λ other_id. with_slots_swapped (not quiet) (record { side = side; port = id; at = slot }) (record { side = other_side; port = other_id; at = other_slot })))
    (λ id. port-keeps other (λ other_id. with_slots_swapped (not quiet) (record { side = side; port = id; at = slot }) (record { side = other_side; port = other_id; at = other_slot }))
    (λ other_id. edits-keep.slots_swapped (not quiet) (record { side = side; port = id; at = slot }) (record { side = other_side; port = other_id; at = other_slot })))
act-keeps (acts.Extra name i j) = port-keeps name (λ id. with_extra_link id i j) (λ id. edits-keep.extra_link id i j)
act-keeps _ = λ pool session shut own s of. of

-- without ports there is nothing to edit
act-empty : (pool : ℕ) (act : Act) → changed_by act (empty_own pool) ≡ empty_own pool
act-empty pool (acts.Rx name keep) = refl
act-empty pool _ = refl

-- what a user has on its side, with the port of it that is shut: its session's, or nothing
abbrev pub SideOf : ℕ → Standing → Option SessionId → Option ℕ → OwnState → Type 0
SideOf pool s None shut own = (own ≡ empty_own pool) × (shut ≡ None)
SideOf pool s (Some session) shut own = IsSoundSideOf pool session.0 shut (own_of session.0 s) own

act-side : (pool : ℕ) (s : Standing) (session : Option SessionId) (shut : Option ℕ) (own : OwnState) (act : Act)
    → SideOf pool s session shut own → SideOf pool s session shut (changed_by act own)
act-side pool s None shut own act side = (ap (changed_by act) side.0 ∙ act-empty pool act, side.1)
act-side pool s (Some x) shut own act side = act-keeps act pool x.0 shut (own_of x.0 s) own side

frame-side : (pool : ℕ) (s : Standing) (session : Option SessionId) (shut : Option ℕ) (own : OwnState) (name bytes : List ℕ)
    → SideOf pool s session shut own → SideOf pool s session shut (at_port name (λ id. with_frame id bytes) own)
frame-side pool s None shut own name bytes side = (ap (at_port name (λ id. with_frame id bytes)) side.0, side.1)
frame-side pool s (Some x) shut own name bytes side =
    port-keeps name (λ id. with_frame id bytes) (λ id. edits-keep.frame id bytes) pool x.0 shut (own_of x.0 s) own side

task-side : (pool : ℕ) (s : Standing) (user : Machine) (shut : Option ℕ) (task : Task)
    → SideOf pool s user.session shut user.own → SideOf pool s (after_task task user).session shut (after_task task user).own
task-side pool s user shut (PutFrame name bytes) side = frame-side pool s user.session shut user.own name bytes side
task-side pool s user shut (ChangeOwn act) side = act-side pool s user.session shut user.own act side
task-side pool s user shut _ side = side

-- A port is shut and then finished, with nothing in between.

abbrev pub ArePaired : List Task → Type 0
ArePaired [] = Unit {0}
ArePaired (ShutPort name ∷ FinishPort other ∷ tasks) = (other ≡ name) × ArePaired tasks
ArePaired (ShutPort name ∷ _) = ⊥
ArePaired (FinishPort name ∷ tasks) = ⊥
ArePaired (_ ∷ tasks) = ArePaired tasks

-- where a port is shut its finish comes next
abbrev pub IsFinishOf : ℕ → OwnState → List ℕ → Type 0
IsFinishOf id own name = (p : OwnPort) × (port_with_name own name ≡ Some p) × (p.id.0 ≡ id)

abbrev pub AreInOrder : Option ℕ → OwnState → List Task → Type 0
AreInOrder None own tasks = ArePaired tasks
AreInOrder (Some id) own (FinishPort name ∷ tasks) = IsFinishOf id own name × ArePaired tasks
AreInOrder (Some id) own _ = ⊥

pub record KeepsSide (pool : ℕ) (s : Standing) (user : Machine) : Type 0 where
  pub shut : Option ℕ
  pub side : SideOf pool s user.session shut user.own
  pub order : AreInOrder shut user.own user.tasks

rest-by : (pool : ℕ) (s : Standing) (user : Machine) (task : Task) (tasks : List Task) (b : Bool)
    → SideOf pool s user.session None user.own → ArePaired (task ∷ tasks)
    → KeepsSide pool s (at_rest (after_task task user) tasks)
    → KeepsSide pool s (cond b (record user { tasks = task ∷ tasks }) (at_rest (after_task task user) tasks))
rest-by pool s user task tasks true side paired rest = record { shut = None; side = side; order = paired }
rest-by pool s user task tasks false side paired rest = rest

-- a shut without a port, and its finish, make no call
pass-by : (pool : ℕ) (s : Standing) (user : Machine) (name other : List ℕ) (tasks : List Task) (found : Option OwnPort)
    → SideOf pool s user.session None user.own → other ≡ name → ArePaired tasks
    → port_with_name user.own name ≡ found
    → KeepsSide pool s (at_rest user tasks) → KeepsSide pool s (at_rest user (ShutPort name ∷ FinishPort other ∷ tasks))
pass-by pool s user name other tasks None side same paired e rest =
    let shut : is_some (call_of_task user (ShutPort name)) ≡ false = rw e refl in
    let finish : is_some (call_of_task user (FinishPort other)) ≡ false = rw (same, e) refl in
    subst (KeepsSide pool s) (sym (rw (shut, finish) refl)) rest
pass-by pool s user name other tasks (Some p) side same paired e rest =
    let shut : is_some (call_of_task user (ShutPort name)) ≡ true = rw e refl in
    let goal : KeepsSide pool s (record user { tasks = ShutPort name ∷ FinishPort other ∷ tasks }) = record { shut = None; side = side; order = (same, paired) } in
    subst (KeepsSide pool s) (sym (rw shut refl)) goal

pub rest-side : (pool : ℕ) (s : Standing) (user : Machine) (tasks : List Task)
    → SideOf pool s user.session None user.own → ArePaired tasks
    → KeepsSide pool s (at_rest user tasks)
rest-side pool s user [] side paired = record { shut = None; side = side; order = tt }
rest-side pool s user (ShutPort name ∷ FinishPort other ∷ tasks) side paired =
    pass-by pool s user name other tasks (port_with_name user.own name) side paired.0 paired.1 refl (rest-side pool s user tasks side paired.1)
rest-side pool s user (ShutPort name ∷ _) side paired = absurd paired
rest-side pool s user (FinishPort name ∷ _) side paired = absurd paired
rest-side pool s user (task ∷ tasks) side paired =
    rest-by pool s user task tasks (is_some (call_of_task user task)) side paired (rest-side pool s (after_task task user) tasks (task-side pool s user None task side) paired)

-- a user that has gone as far as it can without a call is in order still
pub keeps-rest : (pool : ℕ) (s : Standing) (user : Machine) → KeepsSide pool s user
    → KeepsSide pool s (resting user)
keeps-rest pool s user keeps = by_shut keeps.shut user.tasks keeps.side keeps.order
  where
    finish : (id : ℕ) (name : List ℕ) (tasks : List Task) → SideOf pool s user.session (Some id) user.own
        → IsFinishOf id user.own name → ArePaired tasks
        → KeepsSide pool s (at_rest user (FinishPort name ∷ tasks))
    finish id name tasks side of paired =
        let call : is_some (call_of_task user (FinishPort name)) ≡ true = let e = of.1 in rw e refl in
        let goal : KeepsSide pool s (record user { tasks = FinishPort name ∷ tasks }) = record { shut = Some id; side = side; order = (of, paired) } in
        subst (λ (b : Bool). KeepsSide pool s (cond b (record user { tasks = FinishPort name ∷ tasks }) (at_rest user tasks))) (sym call) goal

    by_shut : (shut : Option ℕ) (tasks : List Task) → SideOf pool s user.session shut user.own
        → AreInOrder shut user.own tasks → KeepsSide pool s (at_rest user tasks)
    by_shut None tasks side order = rest-side pool s user tasks side order
    by_shut (Some id) (FinishPort name ∷ tasks) side order = finish id name tasks side order.0 order.1
    by_shut (Some id) _ side order = absurd order

-- Tasks that end a line, and those of lines.

pub left-paired : (tasks : List Task) → ArePaired tasks → ArePaired (lines_left tasks)
left-paired [] paired = tt
left-paired (ShutPort name ∷ FinishPort other ∷ tasks) paired = left-paired tasks paired.1
left-paired (ShutPort name ∷ _) paired = absurd paired
left-paired (FinishPort name ∷ _) paired = absurd paired
left-paired (EndLine ∷ tasks) paired = paired
left-paired (_ ∷ tasks) paired = left-paired tasks paired

pub both-paired : (xs ys : List Task) → ArePaired xs → ArePaired ys → ArePaired (xs ++ ys)
both-paired [] ys front back = back
both-paired (ShutPort name ∷ FinishPort other ∷ tasks) ys front back = (front.0, both-paired tasks ys front.1 back)
both-paired (ShutPort name ∷ _) ys front back = absurd front
both-paired (FinishPort name ∷ _) ys front back = absurd front
both-paired (_ ∷ tasks) ys front back = both-paired tasks ys front back

puts-paired : (count : ℕ) (name bytes : List ℕ) → ArePaired (replicate count (PutFrame name bytes))
puts-paired zero name bytes = tt
puts-paired (suc count) name bytes = puts-paired count name bytes

end-paired : (b : Bool) (name : List ℕ) → ArePaired (cond b [] (SendFrames name ∷ []))
end-paired true name = tt
end-paired false name = tt

pub next-paired : (b : Bool) (xs ys : List Task) → ArePaired xs → ArePaired ys → ArePaired (cond b xs ys)
next-paired true xs ys front back = front
next-paired false xs ys front back = back

played-paired : (name : List ℕ) (batch left : ℕ) (frames : List (List ℕ))
    → ArePaired (played_before_sync name batch left frames)
played-paired name batch left [] = end-paired (left == batch) name
played-paired name batch left (bytes ∷ frames) =
    next-paired (left == 1) (PutFrame name bytes ∷ SendFrames name ∷ played_before_sync name batch batch frames) (PutFrame name bytes ∷ played_before_sync name batch (left - 1) frames)
    (played-paired name batch batch frames) (played-paired name batch (left - 1) frames)

act-paired : (records : List ℕ → List (List ℕ)) (act : Act) → ArePaired (tasks_of records act)
act-paired records (acts.Put name count to from len fill) = puts-paired count name (frame_of_put to from len fill)
act-paired records (acts.Play name file batch) = played-paired name batch batch (filter (fits_to_play name) (records file))
act-paired records (acts.Rx name keep) = next-paired keep (TakeFrames name ∷ []) (ChangeOwn (acts.Rx name keep) ∷ TakeFrames name ∷ []) tt tt
act-paired records (acts.Close name) = (refl, tt)
act-paired records _ = tt

pub lines-paired : (records : List ℕ → List (List ℕ)) (lines : List Act)
    → ArePaired (tasks_of_lines records lines)
lines-paired records [] = tt
lines-paired records (act ∷ lines) =
    both-paired (tasks_of_line records act) (tasks_of_lines records lines) (both-paired (tasks_of records act) (EndLine ∷ []) (act-paired records act) tt) (lines-paired records lines)

ports-paired : (ports : List OwnPort) → ArePaired (flat_map closing_of ports ++ Depart ∷ [])
ports-paired [] = tt
ports-paired (p ∷ ports) = (refl, ports-paired ports)

pub closing-paired : (user : Machine) → ArePaired (closing_tasks user)
closing-paired user = ports-paired user.own.ports
