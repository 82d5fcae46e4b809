-- Laws of a pool: no call loses a buffer.
use Rattle.std.specs.Prelude.{ℕ, ◌≡◌, ◌<◌, List, [], ◌++◌, length, take, drop, slice_index_or, remove}
use Rattle.nm_region.specs.Buffers.{Buffer, RegionState, AreAllOf}
use Rattle.nm_pool.specs.Free.{PoolState, with_buffer, AreOut, CanBeGiven}

abbrev pub TakingLosesNone : Type 0
TakingLosesNone = (r : RegionState) (out : List Buffer) (pool : PoolState) (n : ℕ) → AreOut r out pool → AreOut r (out ++ take n pool.free) (record pool { free = drop n pool.free })

abbrev pub AnyOutCanBeGiven : Type 0
AnyOutCanBeGiven = (r : RegionState) (out : List Buffer) (pool : PoolState) (at : ℕ) (buf : Buffer) → at < length out → buf ≡ slice_index_or out at buf → AreOut r out pool → CanBeGiven pool buf

abbrev pub GivingLosesNone : Type 0
GivingLosesNone = (r : RegionState) (out : List Buffer) (pool : PoolState) (at : ℕ) (buf : Buffer) → at < length out → buf ≡ slice_index_or out at buf → AreOut r out pool
    → AreOut r (remove out at) (record pool { free = with_buffer buf pool.free })

abbrev pub NoneOutIsWhole : Type 0
NoneOutIsWhole = (r : RegionState) (pool : PoolState) → AreOut r [] pool → (length pool.free ≡ pool.buffers) × AreAllOf r pool.free
