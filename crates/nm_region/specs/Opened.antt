-- How a region is kept in memory.
use Rattle.std.specs.Prelude.{◌≡◌, length}
use denote.RawPtr.{block_of}
use Rattle.nm_region.specs.Returned.{IsWhole}
use Rattle.nm_region.specs.declared.region.Region.TheInside.{Inside}

-- the deed is that of the block, and the block has a part for each buffer
pub record IsOpened (r : Inside) : Type 0 where
  pub whole : IsWhole (block_of r.block.start) r.block.start
  pub start : r.deed.start ≡ r.block.start
  pub size : r.deed.size ≡ r.block.size
  pub alloc : r.deed.alloc ≡ r.alloc
  pub buffers : length r.block.home ≡ r.buffers
