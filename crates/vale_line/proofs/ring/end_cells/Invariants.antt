use Rattle.std.specs.Vec.{vec_len}
use Rattle.vale_line.specs.Cells.{AreEmpty}
use Rattle.vale_line.proofs.ring.end_cells.Given as goal

abbrev pub invariant-loop-cell : goal.invariant-loop-cell
invariant-loop-cell l = AreEmpty l.cells.items

abbrev pub decreases-loop-cell : goal.decreases-loop-cell
decreases-loop-cell l = vec_len l.cells
