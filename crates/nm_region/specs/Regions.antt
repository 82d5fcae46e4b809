-- Buffers of one region.
use Rattle.std.specs.Prelude.{ℕ, ◌≡◌, List}
use Rattle.std.specs.List.{AllByRecursion}
use Rattle.nm_region.specs.Buffers.{Buffer}

abbrev pub IsBufferOf : ℕ → Buffer → Type 0
IsBufferOf region b = b.region ≡ region

abbrev pub AreOf : ℕ → List Buffer → Type 0
AreOf region bufs = AllByRecursion (IsBufferOf region) bufs
