use Rattle.std.proofs.Common.{◌≡◌, ◌≤◌, ℕ, List, take}
use Rattle.vale_captures.specs.Outputs.{all_appended}
use Rattle.vale_captures.proofs.outputs.write_outputs.Given as goal

abbrev pub invariant-loop-saved : goal.invariant-loop-saved
invariant-loop-saved g l = let shelf = g.S.Shelf in record {
  files : shelf.files l.shelf ≡ all_appended (shelf.files l.fn.shelf) (take l.saved-index l.saved-items);
  reads_later : (other : List ℕ) → shelf.read_faults l.fn.shelf other ≤ shelf.read_faults l.shelf other;
  appends_later : (other : List ℕ) → shelf.append_faults l.fn.shelf other ≤ shelf.append_faults l.shelf other;
}
