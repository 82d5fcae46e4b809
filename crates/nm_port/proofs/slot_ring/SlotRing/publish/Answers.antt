use Rattle.std.proofs.Common.{ℕ, ◌≡◌, ◌<◌, ◌-◌, ◌∙◌, ◌++◌, ◌∷◌, [], length, refl, ap, arith, length-append}
use Rattle.nm_types.specs.declared.id.Side.{Side}
use Rattle.nm_types.specs.declared.id.Side.TheVariants.{Rx}
use Rattle.nm_types.specs.Positions.{advanced, dist, step_on}
use Rattle.nm_types.specs.Slots.{published_slot}
use Rattle.nm_types.proofs.RingSteps.{dist-add, step_on-below}
use Rattle.nm_port.specs.RingSlots.{RingSlots, slot_count}
use Rattle.nm_port.proofs.SlotLists.{accepted_ring}
use Rattle.nm_port.proofs.slot_ring.SlotRing.publish.Goals as goal

pub invariant_of-self : goal.invariant_of-self
invariant_of-self c =
    let fits = rw (← c.self.view_is) at c.requires.fits in
    let old = c.self.invariant.0 in
    let ring = c.self.inside.ring in
    let slots = c.self.inside.slots.items in
    let rx : c.self.inside.side ≡ Rx = ap (λ (r : RingSlots). r.side) c.self.view_is ∙ c.requires.side in
    let here : ring.accepted_head ≡ ring.head = rw (← c.self.view_is) at c.requires.accepted in
    let room : 0 < ring.size - 1 - dist ring.size ring.head ring.last_tail = rw (← c.self.view_is) at c.requires.room in
    let last : ring.last_tail < ring.size = omega (arith, old.ring.within, old.ring.one_tail) in
    let new : c.advance.new.self ≡ advanced ring ring.head ring.cur (step_on ring.size ring.last_tail 1) =
    rw (c.advance.ensures, c.head.ensures, c.cur.ensures, c.after-tail.ensures, c.size.ensures.size, c.tail-slot.ensures.tail, old.ring.one_tail) refl in
    let farther = dist-add ring.size ring.head ring.last_tail 1 fits.head_within last (omega arith) in
    let all : length slots ≡ dist ring.size ring.accepted_head ring.last_tail = old.count ∙ ap (λ (side : Side). slot_count side ring) rx in
    let same : dist ring.size ring.accepted_head ring.last_tail ≡ dist ring.size ring.head ring.last_tail = ap (λ (at : ℕ). dist ring.size at ring.last_tail) here in
    let slot = published_slot c.args.buffer c.args.len c.args.rest in
    let more : length (slots ++ slot ∷ []) ≡ dist ring.size ring.head (step_on ring.size ring.last_tail 1) = omega (arith, length-append slots (slot ∷ []), all, same, farther) in (
      record {
        ring = rw new (accepted_ring ring (step_on ring.size ring.last_tail 1) old.ring fits.head_within (step_on-below ring.size ring.last_tail 1 last));
        count = rw (new, c.push_back_reserved.ensures.items, rx, c.part_flags.ensures) more;
      },
      rw (new, c.push_back_reserved.ensures.capacity) c.self.invariant.1,
    )
