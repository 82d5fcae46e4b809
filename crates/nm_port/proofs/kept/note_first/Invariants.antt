use Rattle.std.proofs.Common.{◌≡◌, ◌≤◌, ◌-◌, map}
use Rattle.std.specs.Vec.{vec_capacity}
use Rattle.nm_types.specs.Positions.{slots_from}
use Rattle.nm_port.specs.Sides.{name_at}
use Rattle.nm_port.proofs.kept.note_first.Given as goal

abbrev pub invariant-loop-k : goal.invariant-loop-k
invariant-loop-k l = (l.k ≤ l.count) × (l.was.items ≡ map (name_at l.ring) (slots_from l.ring.ring.size l.ring.ring.accepted_head l.k)) × (vec_capacity l.was ≡ vec_capacity l.fn.was)

abbrev pub decreases-loop-k : goal.decreases-loop-k
decreases-loop-k l = l.count - l.k
