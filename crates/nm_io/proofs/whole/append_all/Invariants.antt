use Rattle.std.proofs.Common.{◌≡◌, ℕ, ◌≤◌, ◌-◌, List, length, take}
use Rattle.nm_io.specs.Files.{appended_told}
use Rattle.nm_io.proofs.whole.append_all.Given as goal

abbrev pub invariant-loop-done : goal.invariant-loop-done
invariant-loop-done g l = let shelf = g.S.Shelf in record {
  within : l.done ≤ length l.bytes;
  files : shelf.files l.shelf ≡ appended_told (shelf.files l.fn.shelf) l.name (take l.done l.bytes);
  reads_later : (other : List ℕ) → shelf.read_faults l.fn.shelf other ≤ shelf.read_faults l.shelf other;
  appends_later : (other : List ℕ) → shelf.append_faults l.fn.shelf other ≤ shelf.append_faults l.shelf other;
}

abbrev pub decreases-loop-done : goal.decreases-loop-done
decreases-loop-done g l = length l.bytes - l.done
