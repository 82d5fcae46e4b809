use Rattle.std.proofs.Common.{◌≡◌, ◌+◌, ◌≤◌, ◌++◌}
use Rattle.std.specs.Prelude.{All}
use Rattle.std.specs.Vec.{vec_len, vec_capacity}
use Rattle.std.specs.VecDeque.{deque_len}
use Rattle.vale_line.specs.Gots.{buffers_of, FitsPart, IsSingle}
use Rattle.switch_tests.proofs.lines.frames_of.Given as goal

abbrev pub invariant-loop-buf : goal.invariant-loop-buf
invariant-loop-buf l = record {
  moved : buffers_of l.gots.items ++ l.rest.items ≡ l.fn.bufs.items;
  single : All IsSingle l.gots.items;
  fits : All FitsPart l.gots.items;
  room : vec_len l.gots + deque_len l.rest ≤ vec_capacity l.gots;
}

abbrev pub decreases-loop-buf : goal.decreases-loop-buf
decreases-loop-buf l = deque_len l.rest
