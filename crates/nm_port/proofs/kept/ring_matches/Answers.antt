use Rattle.std.proofs.Common.{ℕ, ◌∙◌, ◌+◌, ap, arith}
use Rattle.std.specs.Prelude.{slice_get}
use Rattle.nm_port.proofs.SideBySide.{matched_more}
use Rattle.nm_port.proofs.kept.ring_matches.Goals as goal

pub loop-k-preserved : goal.loop-k-preserved
loop-k-preserved c = (
  omega (arith, c.side_by_side-slots.ensures.few, c.loop-k-test.true),
  matched_more c.args.ring.now c.loop-k.k c.side_by_side-slots.result.now c.side_by_side-slots.ensures.slots c.args.numbers.now c.numbers_from.result.now
      (λ i. c.numbers_from.ensures.get i ∙ ap (λ (a : ℕ). slice_get c.args.numbers.now (a + i)) c.position_behind.ensures) c.loop-k.invariant.1 (c.slots_match.ensures c.if-not-slots_match.false),
)
