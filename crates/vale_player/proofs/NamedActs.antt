-- What a line that makes no call changes, by the ports that it names.
use Rattle.std.proofs.Common.{ℕ, ◌≡◌, not, List, Option, Some, None, option_map, refl, ◌∙◌, ap}
use Rattle.nm_types.specs.declared.id.PortId.{PortId}
use Rattle.nm_types.specs.OwnPorts.{OwnPort, OwnState, port_with_name}
use Rattle.nm_types.specs.OwnEdits.{with_positions, with_all_back, with_slots_swapped, with_forwarded, with_extra_link}
use Rattle.vale_script.specs.declared.script.Act.TheVariants.{Fwd}
use Rattle.vale_replay.specs.Edits.{at_port, change_found, changed_by, poked}
use Rattle.vale_player.specs.Acts.{NamedActsEdit, ActsBetweenEdit, UnnamedActsChangeNothing, place}
use Rattle.vale_player.proofs.Changes.{changed-at, id-of}

found : (own : OwnState) (name : List ℕ) (p : OwnPort) (change : ℕ → OwnState → OwnState) → port_with_name own name ≡ Some p → at_port name change own ≡ change p.id.0 own
found own name p change named = ap (change_found change own) named

missed : (own : OwnState) (name : List ℕ) (change : ℕ → OwnState → OwnState) → port_with_name own name ≡ None → at_port name change own ≡ own
missed own name change none = ap (change_found change own) none

pub named-acts : NamedActsEdit
named-acts own name p named = record {
  back = λ keep. found own name p with_all_back named;
  poke = λ side at field value. found own name p (poked side at field value) named;
  move = λ side head cur. found own name p (λ id. with_positions side id head cur) named;
  extra = λ from to. found own name p (λ id. with_extra_link id from to) named;
}

both-found : (own : OwnState) (name other : List ℕ) (p q : OwnPort) (change : ℕ → ℕ → OwnState → OwnState) → port_with_name own name ≡ Some p → port_with_name own other ≡ Some q
    → at_port name (λ id. at_port other (change id)) own ≡ change p.id.0 q.id.0 own
both-found own name other p q change one two = found own name p (λ id. at_port other (change id)) one ∙ found own other q (change p.id.0) two

pub acts-between : ActsBetweenEdit
acts-between own name other p q one two = record {
  forward = λ count. both-found own name other p q (with_forwarded count) one two;
  swap = λ side other_side at other_at quiet. both-found own name other p q (λ id other_id. with_slots_swapped (not quiet) (place side id at) (place other_side other_id other_at)) one two;
}

other-missed : (own : OwnState) (name : List ℕ) (found : Option OwnPort) (change : ℕ → ℕ → OwnState → OwnState) → port_with_name own name ≡ None
    → change_found (λ id. at_port name (change id)) own found ≡ own
other-missed own name None change none = refl
other-missed own name (Some p) change none = missed own name (change p.id.0) none

pub unnamed-acts : UnnamedActsChangeNothing
unnamed-acts own name none = record {
  back = λ keep. missed own name with_all_back none;
  poke = λ side at field value. missed own name (poked side at field value) none;
  move = λ side head cur. missed own name (λ id. with_positions side id head cur) none;
  extra = λ from to. missed own name (λ id. with_extra_link id from to) none;
  forward = λ to count. missed own name (λ id. at_port to (with_forwarded count id)) none;
  forward_to = λ from count. other-missed own name (port_with_name own from) (with_forwarded count) none;
  swap = λ other side other_side at other_at quiet. missed own name (λ id. at_port other (λ other_id. with_slots_swapped (not quiet) (place side id at) (place other_side other_id other_at))) none;
  swap_with = λ one side other_side at other_at quiet. other-missed own name (port_with_name own one) (λ id other_id. with_slots_swapped (not quiet) (place side id at) (place other_side other_id other_at)) none;
}

-- ---- frames that are forwarded

pub forwards : (own : OwnState) (from to : List ℕ) (a b : PortId) (count : ℕ) → option_map id-of (port_with_name own from) ≡ Some a → option_map id-of (port_with_name own to) ≡ Some b
    → changed_by (Fwd from to count) own ≡ with_forwarded count a.0 b.0 own
forwards own from to a b count one two =
    changed-at own from a (λ (id : ℕ). at_port to (with_forwarded count id)) one
    ∙ changed-at own to b (with_forwarded count a.0) two
