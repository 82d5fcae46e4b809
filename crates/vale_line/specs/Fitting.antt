-- Which frames a grant gives: the longest prefix of those that are wanted whose slots fit.
use Rattle.std.specs.Prelude.{ℕ, ◌-◌, ◌≤◌, nat_le, if◌then◌else◌, List, [], ◌∷◌, Option, Some, None}
use Rattle.nm_types.specs.Limits.{most_frame_slots}

-- a frame takes a slot at least, and no more than frames do
abbrev pub IsFrameSize : ℕ → Type 0
IsFrameSize size = (1 ≤ size) × (size ≤ most_frame_slots)

-- the longest prefix of sizes whose sum is at most this
abbrev pub fitting_sizes : ℕ → List ℕ → List ℕ
fitting_sizes room [] = []
fitting_sizes room (size ∷ sizes) = if nat_le size room then size ∷ fitting_sizes (room - size) sizes else []

-- the first size, if it fits
abbrev pub first_fitting : ℕ → List ℕ → Option ℕ
first_fitting room [] = None
first_fitting room (size ∷ sizes) = if nat_le size room then Some size else None
