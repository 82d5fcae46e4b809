use Rattle.std.proofs.Common.{ℕ, ◌≡◌, ◌<◌, ◌≤◌, ◌-◌}
use Rattle.nm_types.specs.OwnSyncs.{with_push_cleared}
use Rattle.nm_port.specs.Exchanges.{user_position}
use Rattle.nm_port.proofs.slot_ring.SlotRing.announces.Given as goal

abbrev pub invariant-loop-k : goal.invariant-loop-k
invariant-loop-k l = (l.k ≤ l.count) × ((j : ℕ) → j < l.k → with_push_cleared l.self.slots (user_position l.self j) ≡ l.self.slots)

abbrev pub decreases-loop-k : goal.decreases-loop-k
decreases-loop-k l = l.count - l.k
