use Rattle.std.proofs.Common.{◌≡◌, ◌≤◌, ◌<◌, ◌-◌, true, false, [], length, map}
use Rattle.nm_types.specs.Positions.{slots_from}
use Rattle.nm_port.specs.RingSlots.{slot_at}
use Rattle.nm_port.specs.Own.{bytes_in_hold}
use Rattle.nm_port.specs.Gathered.{gathered, goes_on_behind}
use Rattle.nm_port.proofs.gather.gather.Given as goal

abbrev pub invariant-loop-k : goal.invariant-loop-k
invariant-loop-k l = record {
  within : l.k ≤ l.count;
  frames : l.batch ≡ gathered (bytes_in_hold l.hold) [] false (map (slot_at l.ring) (slots_from l.ring.ring.size l.ring.ring.accepted_head l.k));
  begun : l.begun ≡ goes_on_behind false (map (slot_at l.ring) (slots_from l.ring.ring.size l.ring.ring.accepted_head l.k));
  some : l.begun ≡ true → 0 < length l.batch;
}

abbrev pub decreases-loop-k : goal.decreases-loop-k
decreases-loop-k l = l.count - l.k
