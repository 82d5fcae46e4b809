use Rattle.std.proofs.Common.{◌≡◌, ◌+◌, ◌≤◌, ◌++◌, length}
use Rattle.std.specs.Vec.{vec_len, vec_capacity}
use Rattle.vale_line.specs.Lines.{behind_done, ready_gots}
use Rattle.vale_line.specs.Rings.{ring_state, IsRing}
use Rattle.vale_line.proofs.line.give_done.Given as goal

abbrev pub invariant-loop-ring : goal.invariant-loop-ring
invariant-loop-ring l = record {
  ring : IsRing l.ring;
  moved : l.got.items ++ ready_gots (ring_state l.ring).lots ≡ l.fn.gots.items ++ ready_gots (ring_state l.fn.ring).lots;
  rest : record (ring_state l.ring) { lots = behind_done (ring_state l.ring).lots } ≡ record (ring_state l.fn.ring) { lots = behind_done (ring_state l.fn.ring).lots };
  room : vec_len l.got + length (ready_gots (ring_state l.ring).lots) ≤ vec_capacity l.got;
  capacity : vec_capacity l.fn.gots ≤ vec_capacity l.got;
}

abbrev pub decreases-loop-ring : goal.decreases-loop-ring
decreases-loop-ring l = length (ring_state l.ring).lots
