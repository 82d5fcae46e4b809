use Rattle.std.proofs.Common.{◌≡◌, ◌≤◌, ◌+◌, ℕ, List, take}
use Rattle.vale_captures.specs.Inputs.{AreInputs}
use Rattle.vale_captures.proofs.inputs.read_inputs.Given as goal

abbrev pub invariant-loop-at : goal.invariant-loop-at
invariant-loop-at g l = let shelf = g.S.Shelf in record {
  size : ℕ;
  read : AreInputs (shelf.files l.fn.shelf) (take l.at l.names) l.files.items size;
  left : l.left + size ≡ l.limit;
  files : shelf.files l.shelf ≡ shelf.files l.fn.shelf;
  reads_later : (other : List ℕ) → shelf.read_faults l.fn.shelf other ≤ shelf.read_faults l.shelf other;
  appends_later : (other : List ℕ) → shelf.append_faults l.fn.shelf other ≤ shelf.append_faults l.shelf other;
}
