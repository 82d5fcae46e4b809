use Rattle.std.proofs.Common.{ℕ, ◌≡◌, ◌+◌, ◌∷◌, ◌∙◌, true, false, [], length, map, drop, sym, ap, arith}
use Rattle.nm_types.specs.Positions.{step_on, slots_from}
use Rattle.nm_types.specs.Slots.{SlotState, goes_on}
use Rattle.nm_port.specs.RingSlots.{RingSlots, slot_at}
use Rattle.nm_port.proofs.Judging.{rest-next, rest-none, length-slots}
use Rattle.nm_port.proofs.FrameEnds.{left_next, ends_at, ends_nowhere}
use Rattle.nm_port.proofs.slot_ring.SlotRing.slots_to_end.Goals as goal
use Rattle.nm_port.proofs.slot_ring.SlotRing.slots_to_end.Goals.{After-goes_on}

-- the slot that is looked at
here : (c : After-goes_on) → goes_on (slot_at c.args.self.now (step_on c.args.self.now.ring.size c.args.first c.loop-k.k)) ≡ c.goes_on.result
here c =
    let size : c.args.self.now.ring.size ≡ c.size-size.result = ap (λ (r : RingSlots). r.ring.size) (sym c.self.view_is) ∙ sym c.size-size.ensures.size in
    let slot : slot_at c.args.self.now (step_on c.args.self.now.ring.size c.args.first c.loop-k.k) ≡ c.any_slot.result =
    ap (λ (n : ℕ). slot_at c.args.self.now (step_on n c.args.first c.loop-k.k)) size ∙ sym c.any_slot.ensures in
    ap goes_on slot ∙ sym c.goes_on.ensures

pub returns-then-not-goes_on : goal.returns-then-not-goes_on
returns-then-not-goes_on c =
    let r = c.args.self.now in
    let all = map (slot_at r) (slots_from r.ring.size c.args.first c.args.count) in
    let next = rest-next (slot_at r) r.ring.size c.args.first c.args.count c.loop-k.k c.loop-k-test.true in
    let long = length-slots (slot_at r) r.ring.size c.args.first c.args.count in
    sym (ends_at c.loop-k.k all (slot_at r (step_on r.ring.size c.args.first c.loop-k.k)) next (here (goal.at.returns-then-not-goes_on c).After-goes_on ∙ c.if-not-goes_on.true) (omega (arith, long, c.loop-k-test.true)) c.loop-k.invariant)

pub loop-k-preserved : goal.loop-k-preserved
loop-k-preserved c =
    let r = c.args.self.now in
    let all = map (slot_at r) (slots_from r.ring.size c.args.first c.args.count) in
    let next = rest-next (slot_at r) r.ring.size c.args.first c.args.count c.loop-k.k c.loop-k-test.true in
    left_next c.loop-k.k all (slot_at r (step_on r.ring.size c.args.first c.loop-k.k)) next (here (goal.at.loop-k-preserved c).After-goes_on ∙ c.if-not-goes_on.false) c.loop-k.invariant

pub returns : goal.returns
returns c =
    let r = c.args.self.now in
    let all = map (slot_at r) (slots_from r.ring.size c.args.first c.args.count) in
    let end : c.loop-k.k ≡ c.args.count = omega (arith, c.loop-k-test.false, c.loop-k.auto.k-end) in
    let long = length-slots (slot_at r) r.ring.size c.args.first c.args.count in
    sym (ends_nowhere all c.loop-k.k (end ∙ sym long) (rest-none (slot_at r) r.ring.size c.args.first c.args.count c.loop-k.k (sym end)) c.loop-k.invariant)
