use Rattle.std.proofs.Common.{length}
use Rattle.bench.proofs.Rounds.{IsFilling}
use Rattle.bench.proofs.line.fill_all.Given as goal

abbrev pub invariant-loop-lease : goal.invariant-loop-lease
invariant-loop-lease l = IsFilling l.fn.lease l.lease

abbrev pub decreases-loop-lease : goal.decreases-loop-lease
decreases-loop-lease l = length l.lease.sizes
