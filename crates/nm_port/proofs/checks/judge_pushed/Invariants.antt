use Rattle.std.proofs.Common.{ℕ, List, [], ◌≡◌, ◌≤◌, ◌+◌, length, map, drop}
use Rattle.nm_types.specs.Positions.{slots_from}
use Rattle.nm_types.specs.Slots.{pushed_names}
use Rattle.nm_types.specs.SyncChecks.{slots_refusal}
use Rattle.nm_hold.specs.Holds.{buffers_of}
use Rattle.nm_port.specs.Sides.{pushed_seen_at, AreNamed, AreMarked}
use Rattle.nm_port.proofs.checks.judge_pushed.Given as goal

-- what refuses the slots that are left refuses all
abbrev pub invariant-loop-k : goal.invariant-loop-k
invariant-loop-k l = record {
  left : (named : List ℕ) → AreNamed l.hold named
      → slots_refusal l.ring.side l.whole (buffers_of l.hold) named [] 0 (map (pushed_seen_at l.hold l.port l.ring) (slots_from l.size l.first l.count))
      ≡ slots_refusal l.ring.side l.whole (buffers_of l.hold) named (pushed_names (map (pushed_seen_at l.hold l.port l.ring) (slots_from l.size l.first l.k))) l.begun
      (drop l.k (map (pushed_seen_at l.hold l.port l.ring) (slots_from l.size l.first l.count)));
  marked : AreMarked l.marks (pushed_names (map (pushed_seen_at l.hold l.port l.ring) (slots_from l.size l.first l.k)));
  length_is : length l.marks ≡ buffers_of l.hold + 2;
  few : l.begun ≤ l.k;
}
