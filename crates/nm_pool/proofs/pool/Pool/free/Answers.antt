use Rattle.nm_pool.proofs.Keeping.{IsPool-buffers_in}
use Rattle.nm_pool.proofs.pool.Pool.free.Goals as goal

pub returns-clause-pool : goal.returns-clause-pool
returns-clause-pool c = rw (← c.self.view_is) (IsPool-buffers_in c.self.inside.places.items c.self.invariant.size c.self.invariant.placed)
