use Rattle.std.proofs.Common.{◌≡◌, ◌≤◌, take, length}
use Rattle.std.specs.Vec.{vec_capacity}
use Rattle.vale_serve.specs.Buffers.{AreTaken}
use Rattle.vale_serve.proofs.buffers.take_out.Given as goal

abbrev pub invariant-loop-index : goal.invariant-loop-index
invariant-loop-index l = record {
  taken : AreTaken l.fn.bufs.items (take l.index-index l.named) l.to.items l.bufs.items;
  count : length l.to.items ≡ l.index-index;
  room : length l.named ≤ vec_capacity l.to;
  capacity : vec_capacity l.fn.bufs ≤ vec_capacity l.bufs;
}
