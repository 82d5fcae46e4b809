use Rattle.std.proofs.Common.{◌≡◌, fold}
use Rattle.nm_types.specs.Positions.{slots_from}
use Rattle.nm_port.specs.Resets.{slots_reset_at}
use Rattle.nm_port.proofs.reset.reset_ring.Given as goal

abbrev pub invariant-loop-k : goal.invariant-loop-k
invariant-loop-k l = l.ring ≡ record l.fn.ring { slots = fold (slots_reset_at l.hold l.port l.fn.ring) l.fn.ring.slots (slots_from l.size l.first l.k) }
