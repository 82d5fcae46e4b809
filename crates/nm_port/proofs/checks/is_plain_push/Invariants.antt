use Rattle.std.proofs.Common.{ℕ, ◌<◌, ◌≤◌, ◌-◌}
use Rattle.nm_port.specs.RingSlots.{slot_at}
use Rattle.nm_port.specs.Sides.{IsPlain}
use Rattle.nm_port.specs.Exchanges.{user_position}
use Rattle.nm_port.proofs.checks.is_plain_push.Given as goal

abbrev pub invariant-loop-k : goal.invariant-loop-k
invariant-loop-k l = (l.k ≤ l.count) × ((j : ℕ) → j < l.k → IsPlain (slot_at l.ring (user_position l.ring j)))

abbrev pub decreases-loop-k : goal.decreases-loop-k
decreases-loop-k l = l.count - l.k
