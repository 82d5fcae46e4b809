use Rattle.std.proofs.Common.{◌≡◌, length, map}
use Rattle.nm_types.specs.Positions.{slots_from}
use Rattle.nm_port.specs.Sides.{name_at, AreCleared}
use Rattle.nm_port.proofs.checks.clear_marks.Given as goal

abbrev pub invariant-loop-k : goal.invariant-loop-k
invariant-loop-k l = record {
  cleared : AreCleared l.fn.marks l.marks (map (name_at l.ring) (slots_from l.size l.first l.k));
  count : length l.marks ≡ length l.fn.marks;
}
