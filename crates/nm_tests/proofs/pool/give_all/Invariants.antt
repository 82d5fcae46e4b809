use Rattle.std.specs.Vec.{vec_len}
use Rattle.nm_pool.specs.Free.{AreOut}
use Rattle.nm_tests.proofs.pool.give_all.Given as goal

abbrev pub invariant-loop-out : goal.invariant-loop-out
invariant-loop-out l = AreOut l.region l.out.items l.pool

abbrev pub decreases-loop-out : goal.decreases-loop-out
decreases-loop-out l = vec_len l.out
