use Rattle.std.proofs.Common.{◌≡◌, reverse}
use Rattle.std.specs.Vec.{vec_len}
use Rattle.vale_parts.specs.FreeBuffers.{CanAllBeGiven, pool_with_all}
use Rattle.vale_steps.proofs.buffers.give_back.Given as goal

abbrev pub invariant-loop-buf : goal.invariant-loop-buf
invariant-loop-buf l = record {
  can : CanAllBeGiven l.pool (reverse l.bufs.items);
  rest : pool_with_all (reverse l.bufs.items) l.pool ≡ pool_with_all l.fn.bufs.items l.fn.pool;
}

abbrev pub decreases-loop-buf : goal.decreases-loop-buf
decreases-loop-buf l = vec_len l.bufs
