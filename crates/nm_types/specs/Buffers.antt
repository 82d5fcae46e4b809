-- The buffers of a pool of N, which have the indices 2 to N + 1, and their bytes. A buffer that comes
-- to a session is cleared, but for the bytes of the frame that came in it.
use Rattle.std.specs.Prelude.{ℕ, ◌≤◌, ◌+◌, ◌-◌, List, ◌++◌, length, replicate}
use Rattle.nm_types.specs.Limits.{most_pool, buffer_bytes}

-- how many buffers a pool may have
abbrev pub IsPoolSize : ℕ → Type 0
IsPoolSize pool = (1 ≤ pool) × (pool ≤ most_pool)

abbrev pub IsBufferIndex : ℕ → ℕ → Type 0
IsBufferIndex pool idx = (2 ≤ idx) × (idx ≤ pool + 1)

abbrev pub cleared : List ℕ
cleared = replicate buffer_bytes 0

abbrev pub cleared_but : List ℕ → List ℕ
cleared_but bytes = bytes ++ replicate (buffer_bytes - length bytes) 0
