use Rattle.std.proofs.Common.{◌≡◌, length}
use Rattle.std.specs.Vec.{vec_len}
use denote.RawPtr.{block_of}
use Rattle.nm_region.specs.Returned.{AreComing}
use Rattle.nm_region.proofs.region.take_all_back.Given as goal

abbrev pub invariant-loop-buf : goal.invariant-loop-buf
invariant-loop-buf l = record {
  start : l.block.start ≡ l.fn.block.start;
  size : l.block.size ≡ l.fn.block.size;
  count : length l.block.home ≡ length l.fn.block.home;
  coming : AreComing (block_of l.block.start) l.block.home l.all.items;
}

abbrev pub decreases-loop-buf : goal.decreases-loop-buf
decreases-loop-buf l = vec_len l.all
