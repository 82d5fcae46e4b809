use Rattle.std.proofs.Common.{◌≡◌, ◌∙◌, map, slice_set, false, ap, refl, arith}
use Rattle.std.proofs.lemmas.List.{length-set}
use Rattle.nm_types.specs.Positions.{step_on, slots_from}
use Rattle.nm_types.specs.Slots.{SlotState}
use Rattle.nm_port.specs.Sides.{name_at, names_pushed}
use Rattle.nm_port.proofs.Judging.{unmarked_next}
use Rattle.nm_port.proofs.Pushes.{user_at, seen_more}
use Rattle.nm_port.proofs.checks.clear_marks.Goals as goal

pub user_slot-requires : goal.user_slot-requires
user_slot-requires c = user_at c.args.ring.now.ring _ _ _ _ c.loop-k.k c.size-size.ensures.size c.ring.ensures.ring c.pushed-first.ensures.first c.pushed-first.ensures.count c.pushed-first.ensures.slots.ring c.requires c.loop-k-test.true

pub loop-k-preserved : goal.loop-k-preserved
loop-k-preserved c =
    let f = name_at c.args.ring.now in
    let size = c.size-size.result in
    let first = c.pushed-first.result.0 in
    let k = c.loop-k.k in
    let name = f (step_on size first k) in
    let marks : c.unmark.new.self ≡ slice_set c.loop-k.marks name false = c.unmark.ensures ∙ ap (λ (s : SlotState). slice_set c.loop-k.marks s.buf_idx false) c.user_slot.ensures in
    record {
      cleared = rw (marks, seen_more f size first k) (unmarked_next c.args.marks.now c.loop-k.marks (map f (slots_from size first k)) name c.loop-k.invariant.count c.loop-k.invariant.cleared);
      count = rw marks (length-set c.loop-k.marks name false ∙ c.loop-k.invariant.count);
    }

pub returns-clause-cleared : goal.returns-clause-cleared
returns-clause-cleared c =
    let f = name_at c.args.ring.now in
    let end : c.loop-k.k ≡ c.pushed-first.result.1 = omega (arith, c.loop-k-test.false, c.loop-k.auto.k-end) in
    let is : names_pushed c.args.ring.now ≡ map f (slots_from c.size-size.result c.pushed-first.result.0 c.loop-k.k) =
    rw (end, c.pushed-first.ensures.first, c.pushed-first.ensures.count, c.size-size.ensures.size, c.ring.ensures.ring) refl in
    rw is c.loop-k.invariant.cleared
