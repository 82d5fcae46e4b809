use Rattle.std.proofs.Common.{◌≡◌, ◌+◌, map, drop}
use Rattle.nm_types.specs.Positions.{slots_from}
use Rattle.nm_port.specs.RingSlots.{slot_at}
use Rattle.nm_port.proofs.FrameEnds.{before_end}
use Rattle.nm_port.proofs.slot_ring.SlotRing.slots_to_end.Given as goal

abbrev pub invariant-loop-k : goal.invariant-loop-k
invariant-loop-k l =
    before_end (map (slot_at l.self) (slots_from l.self.ring.size l.first l.count)) ≡ l.k + before_end (drop l.k (map (slot_at l.self) (slots_from l.self.ring.size l.first l.count)))
