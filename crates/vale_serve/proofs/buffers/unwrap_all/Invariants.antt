use Rattle.std.proofs.Common.{◌≡◌, ◌+◌, ◌≤◌, ◌++◌, reverse}
use Rattle.std.specs.Vec.{vec_len, vec_capacity}
use Rattle.vale_line.specs.Gots.{buffers_of}
use Rattle.vale_serve.proofs.buffers.unwrap_all.Given as goal

abbrev pub invariant-loop-got : goal.invariant-loop-got
invariant-loop-got l = record {
  moved : l.to.items ++ buffers_of (reverse l.from.items) ≡ l.fn.to.items ++ buffers_of l.fn.from.items;
  fits : vec_len l.to + vec_len l.from ≤ vec_capacity l.to;
  room : vec_capacity l.to ≡ vec_capacity l.fn.to;
}

abbrev pub decreases-loop-got : goal.decreases-loop-got
decreases-loop-got l = vec_len l.from
