use Rattle.std.proofs.Common.{◌≡◌, ◌+◌, ◌≤◌, ◌++◌, reverse}
use Rattle.std.specs.Vec.{vec_len, vec_capacity}
use Rattle.vale_serve.proofs.buffers.move_all.Given as goal

abbrev pub invariant-loop-buf : goal.invariant-loop-buf
invariant-loop-buf l = record {
  moved : l.to.items ++ reverse l.from.items ≡ l.fn.to.items ++ l.fn.from.items;
  fits : vec_len l.to + vec_len l.from ≤ vec_capacity l.to;
  room : vec_capacity l.to ≡ vec_capacity l.fn.to;
}

abbrev pub decreases-loop-buf : goal.decreases-loop-buf
decreases-loop-buf l = vec_len l.from
