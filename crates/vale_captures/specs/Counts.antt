-- What a call does to a shelf's counts of failures.
use Rattle.std.specs.Prelude.{ℕ, ◌≤◌, List}
use Rattle.nm_io.specs.declared.shelf.Shelf as shelves

-- none falls
pub record CountsRise {S : Type 0} (s : shelves.Ghosts S) (shelf new_shelf : S) : Type 0 where
  pub reads : (other : List ℕ) → s.read_faults shelf other ≤ s.read_faults new_shelf other
  pub appends : (other : List ℕ) → s.append_faults shelf other ≤ s.append_faults new_shelf other
