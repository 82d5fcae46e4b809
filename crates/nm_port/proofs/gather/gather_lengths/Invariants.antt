use Rattle.std.proofs.Common.{◌≡◌, ◌≤◌, length, map}
use Rattle.std.specs.Vec.{vec_capacity}
use Rattle.nm_types.specs.Positions.{slots_from}
use Rattle.nm_port.specs.Offers.{length_seen}
use Rattle.nm_port.proofs.gather.gather_lengths.Given as goal

abbrev pub invariant-loop-k : goal.invariant-loop-k
invariant-loop-k l = (l.lengths.items ≡ map (length_seen l.ring) (slots_from l.size l.first l.k)) × (l.count ≤ vec_capacity l.lengths) × (length l.lengths.items ≡ l.k)
