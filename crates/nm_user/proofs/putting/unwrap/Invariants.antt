use Rattle.std.proofs.Common.{◌≡◌, ◌+◌, ◌≤◌, ◌++◌, reverse}
use Rattle.std.specs.Vec.{vec_len, vec_capacity}
use Rattle.vale_line.specs.Gots.{buffers_of}
use Rattle.nm_user.proofs.putting.unwrap.Given as goal

abbrev pub invariant-loop-got : goal.invariant-loop-got
invariant-loop-got l = record {
  moved : l.bufs.items ++ buffers_of (reverse l.pending.items) ≡ buffers_of l.fn.pending.items;
  fits : vec_len l.bufs + vec_len l.pending ≤ vec_capacity l.bufs;
}

abbrev pub decreases-loop-got : goal.decreases-loop-got
decreases-loop-got l = vec_len l.pending
