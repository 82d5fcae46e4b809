use Rattle.std.proofs.Common.{◌≡◌, ◌≤◌, take, length}
use Rattle.std.specs.Vec.{vec_capacity}
use Rattle.nm_region.specs.Buffers.{indices_of}
use Rattle.vale_steps.proofs.buffers.indices_into.Given as goal

abbrev pub invariant-loop-buf : goal.invariant-loop-buf
invariant-loop-buf l = record {
  done : l.numbers.items ≡ indices_of (take l.buf-index l.bufs);
  room : length l.bufs ≤ vec_capacity l.numbers;
}
