use Rattle.std.proofs.Common.{◌≡◌, ℕ, ◌≤◌, ◌-◌, List, length}
use Rattle.nm_io.specs.Whole.{IsFront}
use Rattle.nm_io.proofs.whole.read_all.Given as goal

abbrev pub invariant-parts : goal.invariant-parts
invariant-parts g l = let shelf = g.S.Shelf in record {
  short : length l.contents.items ≤ l.limit;
  front : IsFront (shelf.files l.fn.shelf) l.name l.contents.items;
  files : shelf.files l.shelf ≡ shelf.files l.fn.shelf;
  reads_later : (other : List ℕ) → shelf.read_faults l.fn.shelf other ≤ shelf.read_faults l.shelf other;
  appends_later : (other : List ℕ) → shelf.append_faults l.fn.shelf other ≤ shelf.append_faults l.shelf other;
}

abbrev pub decreases-parts : goal.decreases-parts
decreases-parts g l = l.limit - length l.contents.items
