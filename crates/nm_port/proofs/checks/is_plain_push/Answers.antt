use Rattle.std.proofs.Common.{arith}
use Rattle.nm_port.proofs.SideBySide.{plain_more}
use Rattle.nm_port.proofs.checks.is_plain_push.Goals as goal

pub loop-k-preserved : goal.loop-k-preserved
loop-k-preserved c = (
  omega (arith, c.side_by_side-slots.ensures.few, c.loop-k-test.true),
  plain_more c.args.ring.now c.loop-k.k c.side_by_side-slots.result.now c.side_by_side-slots.ensures.slots c.loop-k.invariant.1 (c.are_plain.ensures c.if-not-are_plain.false),
)
