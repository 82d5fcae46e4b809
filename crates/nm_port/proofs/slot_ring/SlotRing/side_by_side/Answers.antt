use Rattle.std.proofs.Common.{◌∙◌, ap, subst, arith}
use Rattle.nm_port.specs.RingSlots.{RingSlots, IsRingSlots}
use Rattle.nm_port.proofs.SideBySide.{Cut, in_front, back_within, back_some, in_back}
use Rattle.nm_port.proofs.slot_ring.SlotRing.side_by_side.Goals as goal
use Rattle.nm_port.proofs.slot_ring.SlotRing.side_by_side.Goals.{After-as_slices}

-- where the slots lie
cut : (c : After-as_slices)
    → Cut c.args.self.now c.position_behind-at.result c.args.steps c.args.most c.as_slices.result.0.now c.as_slices.result.1.now c.size.result c.min-most.result c.index_behind-index.result
cut c = record {
  is = subst (λ (x : RingSlots). IsRingSlots x) c.self.view_is c.self.invariant.0;
  there = c.position_behind-at.ensures;
  user = c.requires.user;
  some = c.requires.some;
  items = c.as_slices.ensures.items ∙ ap (λ (x : RingSlots). x.slots) c.self.view_is;
  sized = c.size.ensures.size ∙ ap (λ (x : RingSlots). x.ring.size) c.self.view_is;
  is_part = c.min-most.ensures;
  is_index = c.index_behind-index.ensures;
}

pub part-requires-else-index-front : goal.part-requires-else-index-front
part-requires-else-index-front c = back_within (cut (goal.at.part-requires-else-index-front c).After-as_slices) (omega (arith, c.if-index-front.false))

pub returns-then-index-front-clause-slots : goal.returns-then-index-front-clause-slots
returns-then-index-front-clause-slots c =
    let x = cut (goal.at.returns-then-index-front-clause-slots c).After-as_slices in
    in_front x c.part.result.now (omega (arith, c.if-index-front.true)) c.part.ensures.count c.part.ensures.slots

pub returns-else-index-front-clause-some : goal.returns-else-index-front-clause-some
returns-else-index-front-clause-some c =
    let x = cut (goal.at.returns-else-index-front-clause-some c).After-as_slices in
    back_some x (omega (arith, c.if-index-front.false)) c.part-else-index-front.result.now c.part-else-index-front.ensures.count

pub returns-else-index-front-clause-slots : goal.returns-else-index-front-clause-slots
returns-else-index-front-clause-slots c =
    let x = cut (goal.at.returns-else-index-front-clause-slots c).After-as_slices in
    in_back x (omega (arith, c.if-index-front.false)) c.part-else-index-front.result.now c.part-else-index-front.ensures.count c.part-else-index-front.ensures.slots
