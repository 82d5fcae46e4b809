use Rattle.std.proofs.Common.{ℕ, ◌++◌, ◌≡◌, ◌∙◌, ◌+◌, length, map, List, sym, ap, arith}
use Rattle.nm_types.specs.Positions.{slots_from}
use Rattle.nm_types.specs.Slots.{SlotState}
use Rattle.nm_port.specs.Sides.{name_at}
use Rattle.nm_port.proofs.SideBySide.{slots_more}
use Rattle.nm_port.proofs.Unmoved.{names_count}
use Rattle.nm_port.proofs.kept.note_first.Goals as goal

pub note_slots-requires : goal.note_slots-requires
note_slots-requires c =
    let r = c.args.ring.now in
    let names : length c.loop-k.was.items ≡ c.loop-k.k = ap (λ (xs : List ℕ). length xs) c.loop-k.invariant.1 ∙ names_count r c.loop-k.k in
    omega (arith, names, c.loop-k.invariant.2, c.requires.room, c.side_by_side-slots.ensures.few, c.loop-k-test.true)

pub loop-k-preserved : goal.loop-k-preserved
loop-k-preserved c =
    let r = c.args.ring.now in
    let slots = c.side_by_side-slots.result.now in
    let k = c.loop-k.k in
    let names = map (λ (s : SlotState). s.buf_idx) slots in
    let more : map (name_at r) (slots_from r.ring.size r.ring.accepted_head (k + length slots)) ≡ map (name_at r) (slots_from r.ring.size r.ring.accepted_head k) ++ names =
    slots_more r k slots c.side_by_side-slots.ensures.slots (λ (s : SlotState). s.buf_idx) in
    (omega (arith, c.side_by_side-slots.ensures.few, c.loop-k-test.true), c.note_slots.ensures.names ∙ (ap (λ (ns : List ℕ). ns ++ names) c.loop-k.invariant.1 ∙ sym more), c.note_slots.ensures.capacity ∙ c.loop-k.invariant.2)
