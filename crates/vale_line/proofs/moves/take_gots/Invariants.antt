use Rattle.std.proofs.Common.{◌≡◌, ◌+◌, ◌≤◌, ◌++◌, map, take, drop, length}
use Rattle.std.specs.Vec.{vec_len, vec_capacity}
use Rattle.vale_line.specs.Cells.{emptied, gots_in, AreFull}
use Rattle.vale_line.proofs.moves.take_gots.Given as goal

abbrev pub invariant-loop-cell : goal.invariant-loop-cell
invariant-loop-cell l = record {
  cells : l.cells ≡ map emptied (take l.cell-index l.fn.cells) ++ drop l.cell-index l.fn.cells;
  gots : l.all.items ≡ l.fn.gots.items ++ gots_in (take l.cell-index l.fn.cells);
  full : AreFull (drop l.cell-index l.fn.cells);
  room : vec_len l.all + length (drop l.cell-index l.fn.cells) ≤ vec_capacity l.all;
  capacity : vec_capacity l.all ≡ vec_capacity l.fn.gots;
}
