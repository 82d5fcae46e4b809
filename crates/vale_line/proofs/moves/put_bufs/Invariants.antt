use Rattle.std.proofs.Common.{◌≡◌, ◌+◌, ◌-◌, ◌≤◌, ◌++◌, map, take, drop, length}
use Rattle.std.specs.Vec.{vec_capacity}
use Rattle.vale_line.specs.Cells.{with_buffer, AreEmpty}
use Rattle.vale_line.proofs.moves.put_bufs.Given as goal

abbrev pub invariant-loop-at : goal.invariant-loop-at
invariant-loop-at l = record {
  within : l.at ≤ length l.fn.cells;
  cells : l.cells ≡ take l.at l.fn.cells ++ map with_buffer (drop ((length l.fn.bufs.items - length l.fn.cells) + l.at) l.fn.bufs.items);
  rest : l.bufs.items ≡ take ((length l.fn.bufs.items - length l.fn.cells) + l.at) l.fn.bufs.items;
  empty : AreEmpty (take l.at l.fn.cells);
  capacity : vec_capacity l.bufs ≡ vec_capacity l.fn.bufs;
}

abbrev pub decreases-loop-at : goal.decreases-loop-at
decreases-loop-at l = l.at
