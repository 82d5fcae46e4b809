use Rattle.nm_region.proofs.Named.{AreAllOf-opened}
use Rattle.bench.proofs.pool.time_opening.Goals as goal

pub close-requires : goal.close-requires
close-requires g c = AreAllOf-opened c.in-Ok.region c.in-Ok.all.items c.in-Ok.ensures.all
