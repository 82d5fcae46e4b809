use Rattle.std.proofs.Common.{◌≡◌, ◌∙◌, refl, ap}
use Rattle.nm_types.specs.declared.id.Side.{Side}
use Rattle.nm_types.specs.declared.id.Side.TheVariants.{Tx}
use Rattle.nm_types.specs.Positions.{pushed_slots}
use Rattle.nm_types.specs.OwnSyncs.{slots_after_push}
use Rattle.nm_port.specs.RingSlots.{RingSlots, slot_count}
use Rattle.nm_port.proofs.SlotLists.{length-cleared}
use Rattle.nm_port.proofs.slot_ring.SlotRing.accept_push.Goals as goal

slots : (c : goal.After-accept) → c.clear_if_announced.new.slots.items ≡ slots_after_push c.self.inside.ring c.self.inside.slots.items
slots c =
    let first = rw (← c.self.view_is) at c.pushed-first.ensures.first in
    let count = rw (← c.self.view_is) at c.pushed-first.ensures.count in
    rw (c.clear_if_announced.ensures.slots, c.size-size.ensures.size, first, count) refl

pub invariant_of-self : goal.invariant_of-self
invariant_of-self c =
    let ring = c.self.inside.ring in
    let tx : c.self.inside.side ≡ Tx = ap (λ (r : RingSlots). r.side) c.self.view_is ∙ c.requires.side in (
      record {
        ring = c.accept.ensures.ring;
        count = rw (c.accept.ensures.accepted, slots c, tx) (length-cleared c.self.inside.slots.items (pushed_slots ring ring.head) ∙ (c.self.invariant.0.count ∙ ap (λ (side : Side). slot_count side ring) tx));
      },
      rw (c.accept.ensures.accepted, c.clear_if_announced.ensures.room) c.self.invariant.1,
    )

pub returns : goal.returns
returns c = rw (← c.self.view_is, c.accept.ensures.accepted, slots c) refl
