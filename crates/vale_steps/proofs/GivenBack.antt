-- Buffers go back to the pool in parts, and are of its region.
use Rattle.std.proofs.Common.{ℕ, Bool, true, false, cond, ◌≡◌, nat_lt, List, [], ◌∷◌, ◌++◌, refl}
use Rattle.nm_region.specs.Buffers.{Buffer}
use Rattle.nm_pool.specs.Free.{PoolState, with_buffer}
use Rattle.vale_parts.specs.FreeBuffers.{CanAllBeGiven, pool_with, pool_with_all}
use Rattle.nm_region.specs.Regions.{AreOf}

pub can-front : (pool : PoolState) (a b : List Buffer) → CanAllBeGiven pool (a ++ b) → CanAllBeGiven pool a
can-front pool [] b can = tt
can-front pool (x ∷ xs) b can = (can.0, can-front (pool_with x pool) xs b can.1)

pub can-rest : (pool : PoolState) (a b : List Buffer) → CanAllBeGiven pool (a ++ b) → CanAllBeGiven (pool_with_all a pool) b
can-rest pool [] b can = can
can-rest pool (x ∷ xs) b can = can-rest (pool_with x pool) xs b can.1

pub with-both : (pool : PoolState) (a b : List Buffer) → pool_with_all (a ++ b) pool ≡ pool_with_all b (pool_with_all a pool)
with-both pool [] b = refl
with-both pool (x ∷ xs) b = with-both (pool_with x pool) xs b

are-with : (region : ℕ) (buf : Buffer) (free : List Buffer) → buf.region ≡ region → AreOf region free → AreOf region (with_buffer buf free)
are-with region buf [] is are = (is, tt)
are-with region buf (b ∷ others) is are = by_place (nat_lt buf.index b.index) (are-with region buf others is are.1)
  where
    by_place : (before : Bool) → AreOf region (with_buffer buf others) → AreOf region (cond before (buf ∷ b ∷ others) (b ∷ with_buffer buf others))
    by_place true rest = (is, are)
    by_place false rest = (are.0, rest)

pub are-with_all : (region : ℕ) (bufs : List Buffer) (pool : PoolState) → AreOf region bufs → AreOf region pool.free → AreOf region (pool_with_all bufs pool).free
are-with_all region [] pool of are = are
are-with_all region (buf ∷ bufs) pool of are = are-with_all region bufs (pool_with buf pool) of.1 (are-with region buf pool.free of.0 are)
