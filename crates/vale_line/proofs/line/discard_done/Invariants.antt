use Rattle.std.proofs.Common.{◌≡◌, ◌+◌, ◌≤◌, ◌++◌, length}
use Rattle.std.specs.Vec.{vec_len, vec_capacity}
use Rattle.std.specs.Prelude.{sum_by}
use Rattle.vale_line.specs.Gots.{buffers_of, last_count}
use Rattle.vale_line.specs.Lines.{behind_done, ready_gots}
use Rattle.vale_line.specs.Rings.{ring_state, IsRing}
use Rattle.vale_line.proofs.line.discard_done.Given as goal

abbrev pub invariant-loop-ring : goal.invariant-loop-ring
invariant-loop-ring l = record {
  ring : IsRing l.ring;
  moved : l.room.items ++ buffers_of (ready_gots (ring_state l.ring).lots) ≡ l.fn.room.items ++ buffers_of (ready_gots (ring_state l.fn.ring).lots);
  rest : record (ring_state l.ring) { lots = behind_done (ring_state l.ring).lots } ≡ record (ring_state l.fn.ring) { lots = behind_done (ring_state l.fn.ring).lots };
  count : l.count + sum_by last_count (ready_gots (ring_state l.ring).lots) ≡ sum_by last_count (ready_gots (ring_state l.fn.ring).lots);
  few : length (ready_gots (ring_state l.ring).lots) ≤ length (ready_gots (ring_state l.fn.ring).lots);
  room : vec_len l.room + length (ready_gots (ring_state l.ring).lots) ≤ vec_capacity l.room;
}

abbrev pub decreases-loop-ring : goal.decreases-loop-ring
decreases-loop-ring l = length (ring_state l.ring).lots
