use Rattle.std.proofs.Common.{◌≡◌, fold}
use Rattle.nm_types.specs.Positions.{slots_from}
use Rattle.nm_port.specs.Puts.{with_slot_named}
use Rattle.nm_port.proofs.take.name_held.Given as goal

abbrev pub invariant-loop-k : goal.invariant-loop-k
invariant-loop-k l = l.ring ≡ record l.fn.ring { slots = fold (with_slot_named l.hold l.id) l.fn.ring.slots (slots_from l.size l.first l.k) }
