use Rattle.std.proofs.Common.{◌≡◌, ◌+◌, ◌≤◌, ◌++◌, map, reverse}
use Rattle.std.specs.Vec.{vec_len, vec_capacity}
use Rattle.vale_line.specs.Cells.{with_buffer}
use Rattle.vale_line.proofs.ring.full_cells.Given as goal

abbrev pub invariant-loop-buf : goal.invariant-loop-buf
invariant-loop-buf l = record {
  cells : l.cells.items ++ map with_buffer (reverse l.bufs.items) ≡ map with_buffer l.fn.bufs.items;
  room : vec_len l.cells + vec_len l.bufs ≤ vec_capacity l.cells;
  capacity : vec_capacity l.bufs ≡ vec_capacity l.fn.bufs;
}

abbrev pub decreases-loop-buf : goal.decreases-loop-buf
decreases-loop-buf l = vec_len l.bufs
