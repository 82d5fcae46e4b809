-- Buffers that come back to the block of their region, one after another, in any order.
use Rattle.std.specs.Prelude.{ℕ, ◌≡◌, ◌+◌, ◌<◌, ◌≤◌, ◌⊎◌, Bool, true, false, if◌then◌else◌, List, [], ◌∷◌, length, get_or}
use Rattle.std.specs.List.{AllByRecursion}
use Rattle.std.specs.Prelude.{nat_eq}
use denote.RawPtr.{Ptr, block_ptr}
use Rattle.nm_region.specs.Buffers.{Buffer, indices_of}

-- whether a number stands among others
abbrev pub has : ℕ → List ℕ → Bool
has i [] = false
has i (k ∷ ks) = if nat_eq k i then true else has i ks

-- a buffer of the region r, which has n of them
pub record IsOf (r n : ℕ) (buf : Buffer) : Type 0 where
  pub region : buf.region ≡ r
  pub low : 2 ≤ buf.index
  pub high : buf.index < n + 2

-- each part of the block is at home, or its buffer is still to come, and those to come are buffers of
-- the block's region
pub record AreComing (r : ℕ) (home : List Bool) (bufs : List Buffer) : Type 0 where
  pub of : AllByRecursion (IsOf r (length home)) bufs
  pub each : (at : ℕ) → at < length home → (get_or home at false ≡ true) ⊎ (has (at + 2) (indices_of bufs) ≡ true)

-- a block begins where its object does
abbrev pub IsWhole : ℕ → Ptr → Type 0
IsWhole region start = start ≡ block_ptr region 0
