use Rattle.std.proofs.Common.{◌≡◌, ◌<◌, ◌∙◌, drop, length, refl, ap, arith}
use Rattle.std.proofs.lemmas.List.{length-drop}
use Rattle.nm_types.specs.declared.id.Side.{Side}
use Rattle.nm_types.specs.declared.id.Side.TheVariants.{Rx}
use Rattle.nm_types.specs.Positions.{dist}
use Rattle.nm_types.proofs.RingSteps.{dist_split}
use Rattle.nm_port.specs.RingSlots.{RingSlots, slot_count}
use Rattle.nm_port.proofs.SlotLists.{tail_stays}
use Rattle.nm_port.proofs.slot_ring.SlotRing.accept_back.Goals as goal

slots : (c : goal.After-accept) → c.drop_front.new.slots.items ≡ drop (dist c.self.inside.ring.size c.self.inside.ring.accepted_head c.self.inside.ring.head) c.self.inside.slots.items
slots c = let count = rw (← c.self.view_is) at c.pushed-count.ensures.count in rw (c.drop_front.ensures.slots, count) refl

pub invariant_of-self : goal.invariant_of-self
invariant_of-self c =
    let fits = rw (← c.self.view_is) at c.requires.fits in
    let old = c.self.invariant.0 in
    let ring = c.self.inside.ring in
    let rx : c.self.inside.side ≡ Rx = ap (λ (r : RingSlots). r.side) c.self.view_is ∙ c.requires.side in
    let last : ring.last_tail < ring.size = omega (arith, old.ring.within, old.ring.one_tail) in
    let pushed = dist ring.size ring.accepted_head ring.head in
    let all : length c.self.inside.slots.items ≡ dist ring.size ring.accepted_head ring.last_tail = old.count ∙ ap (λ (side : Side). slot_count side ring) rx in
    let split = dist_split ring.size ring.accepted_head ring.head ring.last_tail old.ring.accepted fits.head_within last fits.head_reach in
    let left : length (drop pushed c.self.inside.slots.items) ≡ dist ring.size ring.head ring.last_tail = omega (arith, length-drop pushed c.self.inside.slots.items, all, split) in (
      record {
        ring = c.accept.ensures.ring;
        count = rw (c.accept.ensures.accepted, slots c, rx) (rw (tail_stays ring old.ring) left);
      },
      rw (c.accept.ensures.accepted, c.drop_front.ensures.room) c.self.invariant.1,
    )

pub returns : goal.returns
returns c = rw (← c.self.view_is, c.accept.ensures.accepted, slots c) refl
