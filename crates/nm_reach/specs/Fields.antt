-- A field and a right to a run of its cells, as contracts see them.
use Rattle.std.specs.Prelude.{ℕ, ◌≡◌, ◌+◌, ◌-◌, ◌≤◌, nat_lt, if◌then◌else◌, List, ◌++◌, length, take, drop, refl}
use Rattle.std.specs.Coded.{Coded, code_by, coded×, coded_list, coded_ℕ}
use Rattle.std.specs.Prelude.{Vec}
use Rattle.std.specs.Vec.{vec_ptr, vec_len, vec_capacity}
use denote.RawPtr.{Ptr, coded_ptr}

-- `field` is where the cells lie: by it fields are told apart, and no caller can work it out.
-- `capacity` is that of the vector that the field was made of
pub record FieldState : Type 0 where
  pub field : Ptr
  pub size : ℕ
  pub capacity : ℕ

abbrev pub field_code : Coded FieldState
field_code =
    code_by (Ptr × (ℕ × ℕ)) (coded× coded_ptr (coded× coded_ℕ coded_ℕ))
    (λ f. (f.field, (f.size, f.capacity)))
    (λ p. record { field = p.0; size = p.1.0; capacity = p.1.1 }) (λ _. refl)

-- the right to the cells from `start` on, round the ring of `size` cells: as many as there are
-- values, which lie there in ring order. Cells that lie side by side are a run that does not go round
pub record Run (X : Type 0) : Type 0 where
  pub field : Ptr
  pub size : ℕ
  pub start : ℕ
  pub values : List X

abbrev pub run_code : {X : Type 0} → Coded X → Coded (Run X)
run_code {X = X} c =
    code_by (Ptr × (ℕ × (ℕ × List X)))
    (coded× coded_ptr (coded× coded_ℕ (coded× coded_ℕ (coded_list c))))
    (λ s. (s.field, (s.size, (s.start, s.values))))
    (λ p. record { field = p.0; size = p.1.0; start = p.1.1.0; values = p.1.1.1 }) (λ _. refl)

-- a vector whose values are out: where they lay, how many they were, and how many there is room for
abbrev pub husk_of : {X Z : Type 0} → Vec X Z → FieldState
husk_of v = record { field = vec_ptr v; size = vec_len v; capacity = vec_capacity v }

-- the field of a vector's values, and the right to all its cells
abbrev pub field_of : {X Z : Type 0} → Vec X Z → FieldState
field_of v = record { field = vec_ptr v; size = length v.items; capacity = vec_capacity v }

abbrev pub whole_of : {X Z : Type 0} → Vec X Z → Run X
whole_of v = record { field = vec_ptr v; size = length v.items; start = 0; values = v.items }

-- the cell k behind the cell `from`, where k is at most the size of the ring
abbrev pub round : ℕ → ℕ → ℕ → ℕ
round size from k = if nat_lt (from + k) size then from + k else from + k - size

-- where the run ends: the first cell behind it
abbrev pub end_of : {X : Type 0} → Run X → ℕ
end_of r = round r.size r.start (length r.values)

-- `next` begins where r ends, in the same field, and both together are not longer than the ring
pub record Meet {X : Type 0} (r next : Run X) : Type 0 where
  pub field : next.field ≡ r.field
  pub size : next.size ≡ r.size
  pub start : next.start ≡ end_of r
  pub room : length r.values + length next.values ≤ r.size

-- the right to all cells of f
pub record IsAllOf {X : Type 0} (f : FieldState) (r : Run X) : Type 0 where
  pub field : r.field ≡ f.field
  pub size : r.size ≡ f.size
  pub all : length r.values ≡ f.size

-- the values in the order of their cells, from cell 0 on
abbrev pub from_first : {X : Type 0} → Run X → List X
from_first r = drop (r.size - r.start) r.values ++ take (r.size - r.start) r.values

-- a run's values up to the end of the field, and those from cell 0 on
abbrev pub front_of : {X : Type 0} → Run X → List X
front_of r = take (r.size - r.start) r.values

abbrev pub back_of : {X : Type 0} → Run X → List X
back_of r = drop (r.size - r.start) r.values
