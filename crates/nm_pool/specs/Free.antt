-- The free buffers of a pool: by rising index, with their bytes.
use Rattle.std.specs.Prelude.{ℕ, ◌≡◌, ◌≢◌, nat_lt, if◌then◌else◌, List, [], ◌∷◌, ◌++◌, length, All}
use Rattle.std.specs.List.{range_with_len}
use Rattle.std.specs.List.Sorted.{IsStrictlyIncreasing}
use Rattle.nm_types.specs.Buffers.{IsPoolSize, IsBufferIndex}
use Rattle.nm_region.specs.Buffers.{Buffer, RegionState, indices_of, AreAllOf}

-- how many buffers the pool was made of, and those that are free
pub record PoolState : Type 0 where
  pub buffers : ℕ
  pub free : List Buffer

-- a buffer put among others where its index belongs
abbrev pub with_buffer : Buffer → List Buffer → List Buffer
with_buffer buf [] = buf ∷ []
with_buffer buf (b ∷ others) = if nat_lt buf.index b.index then buf ∷ b ∷ others else b ∷ with_buffer buf others

-- all buffers of a pool, by rising index
abbrev pub AreWhole : List Buffer → Type 0
AreWhole bufs = indices_of bufs ≡ range_with_len 2 (length bufs)

pub record IsPool (pool : PoolState) : Type 0 where
  pub size : IsPoolSize pool.buffers
  pub rise : IsStrictlyIncreasing (indices_of pool.free)
  pub within : All (IsBufferIndex pool.buffers) (indices_of pool.free)

-- buffers that are out, and the free ones, are all buffers of a region, each once
pub record AreOut (r : RegionState) (out : List Buffer) (pool : PoolState) : Type 0 where
  pub each : AreAllOf r (out ++ pool.free)
  pub as_many : pool.buffers ≡ r.buffers

-- what `give` asks of a buffer
pub record CanBeGiven (pool : PoolState) (buf : Buffer) : Type 0 where
  pub index : IsBufferIndex pool.buffers buf.index
  pub other : All (λ (index : ℕ). index ≢ buf.index) (indices_of pool.free)
