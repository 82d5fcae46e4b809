use Rattle.std.proofs.Common.{ℕ, ◌∙◌, ◌+◌, ap, arith}
use Rattle.std.specs.Prelude.{slice_index_or}
use Rattle.nm_port.specs.Exchanges.{KeepFirst}
use Rattle.nm_port.proofs.SideBySide.{names_more}
use Rattle.nm_port.proofs.kept.count_kept.Goals as goal
use Rattle.nm_port.proofs.kept.count_kept.Goals.{After-slots_kept-kept}

-- the slots that were looked at keep the buffers in their places too
more : (c : After-slots_kept-kept) → KeepFirst c.args.ring.now c.args.numbers.now (c.loop-k.k + c.slots_kept-kept.result)
more c =
    let numbers = c.args.numbers.now in
    names_more c.args.ring.now c.loop-k.k c.side_by_side-slots.result.now c.side_by_side-slots.ensures.slots numbers c.numbers_from.result.now
    (λ i. c.numbers_from.ensures.read i ∙ ap (λ (a : ℕ). slice_index_or numbers (a + i) 0) c.position_behind.ensures) c.slots_kept-kept.result c.slots_kept-kept.ensures.few c.loop-k.invariant.1 c.slots_kept-kept.ensures.kept

pub loop-k-preserved : goal.loop-k-preserved
loop-k-preserved c = (
  omega (arith, c.slots_kept-kept.ensures.few, c.side_by_side-slots.ensures.few, c.loop-k-test.true),
  more (goal.at.loop-k-preserved c).After-slots_kept-kept,
)

pub returns-then-kept-slots-clause-kept : goal.returns-then-kept-slots-clause-kept
returns-then-kept-slots-clause-kept c = more (goal.at.returns-then-kept-slots-clause-kept c).After-slots_kept-kept
