use Rattle.std.proofs.Common.{◌≡◌, map}
use Rattle.nm_types.specs.Positions.{slots_from}
use Rattle.nm_port.specs.Offers.{offer_seen}
use Rattle.nm_port.proofs.gather.gather_offered.Given as goal

abbrev pub invariant-loop-k : goal.invariant-loop-k
invariant-loop-k l = l.batch ≡ map (offer_seen l.hold l.ring) (slots_from l.size l.first l.k)
