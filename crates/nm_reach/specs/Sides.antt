-- A circular run as its two sides: the cells up to the end of the field, and those from cell 0 on.
use Rattle.std.specs.Prelude.{ℕ, ◌≡◌, ◌+◌, ◌<◌, ◌≤◌, ◌⊎◌, List, ◌++◌, length}
use denote.RawPtr.{Ptr}
use Rattle.nm_reach.specs.declared.sides.Sides.{Sides}

abbrev pub values_of : {T : Type 0} → Sides T → List T
values_of s = s.front.values ++ s.back.values

-- m cells from `start` on and n cells from cell 0 on are one run, round the ring of `size` cells
abbrev pub IsOneRun : ℕ → ℕ → ℕ → ℕ → Type 0
IsOneRun size start m n = ((n ≡ 0) × (start + m ≤ size)) ⊎ ((start + m ≡ size) × (n ≤ start))

-- the sides of a run from `start` on, in the field of `size` cells at `base`
pub record IsRound {T : Type 0} (base : Ptr) (size start : ℕ) (s : Sides T) : Type 0 where
  pub within : start < size
  pub front_field : s.front.field ≡ base
  pub front_size : s.front.size ≡ size
  pub front_start : s.front.start ≡ start
  pub back_field : s.back.field ≡ base
  pub back_size : s.back.size ≡ size
  pub back_start : s.back.start ≡ 0
  pub one : IsOneRun size start (length s.front.values) (length s.back.values)

abbrev pub IsRun : {T : Type 0} → Sides T → Type 0
IsRun s = IsRound s.front.field s.front.size s.front.start s
