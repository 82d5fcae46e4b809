-- Why no buffers were taken.
use Rattle.std.specs.Prelude.{ℕ, ◌≡◌, ◌<◌}
use Rattle.nm_pool.specs.declared.pool.TakeFault.{TakeFault}
use Rattle.nm_pool.specs.declared.pool.TakeFault.TheVariants.{NoBuffers, NoMemory}

-- too few buffers are free, and the fault says so; or memory was wanting
abbrev pub IsShort : ℕ → ℕ → TakeFault → Type 0
IsShort n free (NoBuffers want have) = (want ≡ n) × (have ≡ free) × (free < n)
IsShort n free NoMemory = Unit {0}
