use Rattle.std.proofs.Common.{◌≡◌, ◌+◌, ◌≤◌, ◌++◌, length, reverse}
use Rattle.std.specs.Prelude.{sum_by}
use Rattle.std.specs.Vec.{vec_len, vec_capacity}
use Rattle.vale_line.specs.Gots.{buffers_of, last_count}
use Rattle.vale_line.proofs.moves.discard.Given as goal

abbrev pub invariant-loop-got : goal.invariant-loop-got
invariant-loop-got l = record {
  bufs : l.bufs.items ++ buffers_of (reverse l.gots.items) ≡ l.fn.bufs.items ++ buffers_of l.fn.gots.items;
  count : l.count + sum_by last_count (reverse l.gots.items) ≡ sum_by last_count l.fn.gots.items;
  room : vec_len l.bufs + length l.gots.items ≤ vec_capacity l.bufs;
  capacity : vec_capacity l.bufs ≡ vec_capacity l.fn.bufs;
}

abbrev pub decreases-loop-got : goal.decreases-loop-got
decreases-loop-got l = length l.gots.items
