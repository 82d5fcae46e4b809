-- How a pool is kept in memory.
use Rattle.std.specs.Prelude.{◌≡◌, ◌≤◌, ◌*◌, [], length}
use Rattle.std.specs.Vec.{vec_capacity}
use Rattle.nm_types.specs.Buffers.{IsPoolSize}
use Rattle.nm_types.specs.Limits.{most_pool}
use Rattle.nm_pool.specs.Bits.{AreBits}
use Rattle.nm_pool.specs.Kept.{buffers_in, ArePlaced}
use Rattle.nm_pool.specs.declared.pool.Pool.TheInside.{Inside}

pub record IsStored (p : Inside) : Type 0 where
  pub size : IsPoolSize (length p.places.items)
  pub placed : ArePlaced 2 p.places.items
  pub counted : p.free ≡ length (buffers_in p.places.items)
  pub emptied : p.room.items ≡ []
  pub room : length p.places.items ≤ vec_capacity p.room
  pub bits : AreBits p.words.items p.places.items
  pub words : length p.places.items ≤ length p.words.items * 64
  pub few : length p.words.items * 64 ≤ most_pool
