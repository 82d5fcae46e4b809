use Rattle.std.proofs.Common.{◌≡◌, ◌+◌, ◌≤◌, ◌++◌, map, take, drop, length}
use Rattle.std.specs.Prelude.{sum_by}
use Rattle.std.specs.Vec.{vec_len, vec_capacity}
use Rattle.vale_line.specs.Cells.{emptied, gots_in, AreFull}
use Rattle.vale_line.specs.Gots.{buffers_of, last_count}
use Rattle.vale_line.proofs.moves.take_bufs.Given as goal

abbrev pub invariant-loop-cell : goal.invariant-loop-cell
invariant-loop-cell l = record {
  cells : l.cells ≡ map emptied (take l.cell-index l.fn.cells) ++ drop l.cell-index l.fn.cells;
  bufs : l.bufs.items ≡ l.fn.bufs.items ++ buffers_of (gots_in (take l.cell-index l.fn.cells));
  count : l.count ≡ sum_by last_count (gots_in (take l.cell-index l.fn.cells));
  full : AreFull (drop l.cell-index l.fn.cells);
  room : vec_len l.bufs + length (drop l.cell-index l.fn.cells) ≤ vec_capacity l.bufs;
  capacity : vec_capacity l.bufs ≡ vec_capacity l.fn.bufs;
}
