use Rattle.nm_types.specs.declared.id.Side.TheVariants.{Tx}
use Rattle.nm_own.proofs.Offered.{lengths_are_seen}
use Rattle.nm_own.proofs.Passing.{passing_ring}
use Rattle.nm_own.proofs.own.OwnSide.offered_lengths.Goals as goal

pub fitting_ring-requires : goal.fitting_ring-requires
fitting_ring-requires c = rw c.deref.ensures.value (passing_ring c.self.inside c.args.self.now Tx c.args.port c.self.invariant c.self.view_is c.requires.ring c.requires.passes)

pub returns : goal.returns
returns c =
    rw (← c.self.view_is, ← (lengths_are_seen c.self.inside.hold c.self.inside.ports.items c.args.port c.fitting_ring.result.now c.self.invariant.sided (rw c.deref.ensures.value at c.fitting_ring.ensures.at))) c.gather_lengths.ensures
