use Rattle.std.specs.Vec.{vec_len}
use Rattle.nm_tests.proofs.reach.spend_all.Given as goal

abbrev pub invariant-loop-coin : goal.invariant-loop-coin
invariant-loop-coin l = Unit {0}

abbrev pub decreases-loop-coin : goal.decreases-loop-coin
decreases-loop-coin l = vec_len l.coins
