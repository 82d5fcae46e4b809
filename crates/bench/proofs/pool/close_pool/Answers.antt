use Rattle.nm_pool.proofs.Out.{none_out_is_whole}
use Rattle.bench.proofs.pool.close_pool.Goals as goal

pub close-requires : goal.close-requires
close-requires c = (none_out_is_whole c.args.region.now c.args.pool c.requires).0

pub returns : goal.returns
returns c = rw c.close.ensures.buffers (c.requires.each)
