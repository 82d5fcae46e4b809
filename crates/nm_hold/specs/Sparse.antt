-- What stands at the indices of a pool, kept side by side: at each index a number, which is 0 where
-- nothing stands, and else one more than the position of what stands there.
use Rattle.std.specs.Prelude.{ℕ, zero, suc, ◌≡◌, ◌<◌, ◌≤◌, ◌+◌, ◌==◌, List, length, map, count_by, slice_index, slice_get, Option, None}
use Rattle.std.specs.Vec.{vec_capacity}
use Rattle.nm_types.specs.Limits.{most_pool}
use Rattle.nm_hold.specs.declared.standing.Standing.{Standing}
use Rattle.nm_hold.specs.declared.cells.Owned.{Owned}
use Rattle.nm_hold.specs.declared.cells.Cells.TheInside.{Inside}

-- what a number names
abbrev pub named_by : List Standing → ℕ → Option Standing
named_by held zero = None
named_by held (suc position) = slice_get held position

-- at each index what its number names
abbrev pub cells_of : List ℕ → List Standing → List (Option Standing)
cells_of at held = map (named_by held) at

-- the number of an index, 0 behind the last one
abbrev pub number_of : List ℕ → ℕ → ℕ
number_of at idx = slice_index at idx

-- an index has a position's number exactly where it is the owner of that position
pub record AreOwners (at owners : List ℕ) : Type 0 where
  pub numbered : (k : ℕ) → k < length owners → number_of at (slice_index owners k) ≡ suc k
  pub owned : (idx k : ℕ) → number_of at idx ≡ suc k → (k < length owners) × (slice_index owners k ≡ idx)
  pub full : count_by (λ n. n == 0) at + length owners ≡ length at

-- by position: what stands there, and the index that owns it
abbrev pub standings_in : List Owned → List Standing
standings_in held = map (λ (o : Owned). o.standing) held

abbrev pub owners_in : List Owned → List ℕ
owners_in held = map (λ (o : Owned). o.index) held

pub record IsSparse (c : Inside) : Type 0 where
  pub owners : AreOwners c.at (owners_in c.held.items)
  pub few : length c.at ≤ most_pool + 2
  pub space : length c.at ≤ vec_capacity c.held
