-- The places of a pool: the place at k has the buffer of index k + 2, or none.
use Rattle.std.specs.Prelude.{ℕ, ◌≡◌, suc, List, [], ◌∷◌, Option, Some, None}
use Rattle.nm_region.specs.Buffers.{Buffer}

-- the buffers that stand in the places, in order
abbrev pub buffers_in : List (Option Buffer) → List Buffer
buffers_in [] = []
buffers_in (None ∷ places) = buffers_in places
buffers_in (Some b ∷ places) = b ∷ buffers_in places

-- no place has another buffer than that of its index, which is `index` for the first place
abbrev pub ArePlaced : ℕ → List (Option Buffer) → Type 0
ArePlaced index [] = Unit {0}
ArePlaced index (None ∷ places) = ArePlaced (suc index) places
ArePlaced index (Some b ∷ places) = (b.index ≡ index) × ArePlaced (suc index) places
