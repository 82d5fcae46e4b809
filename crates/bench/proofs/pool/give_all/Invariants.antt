use Rattle.std.specs.Vec.{vec_len}
use Rattle.nm_pool.specs.Free.{AreOut}
use Rattle.bench.proofs.pool.give_all.Given as goal

abbrev pub invariant-loop-pool : goal.invariant-loop-pool
invariant-loop-pool l = AreOut l.region l.out.items l.pool

abbrev pub decreases-loop-pool : goal.decreases-loop-pool
decreases-loop-pool l = vec_len l.out
