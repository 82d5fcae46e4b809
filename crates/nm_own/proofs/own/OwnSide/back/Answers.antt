use Rattle.nm_types.specs.declared.id.Side.TheVariants.{Rx}
use Rattle.nm_own.proofs.Offered.{back_is_seen}
use Rattle.nm_own.proofs.Passing.{passing_ring}
use Rattle.nm_own.proofs.own.OwnSide.back.Goals as goal

pub fitting_ring-requires : goal.fitting_ring-requires
fitting_ring-requires c = rw c.deref.ensures.value (passing_ring c.self.inside c.args.self.now Rx c.args.port c.self.invariant c.self.view_is c.requires.ring c.requires.passes)

pub returns : goal.returns
returns c =
    rw (← c.self.view_is, ← (back_is_seen c.self.inside.hold c.self.inside.ports.items c.args.port c.fitting_ring.result.now c.self.invariant.sided (rw c.deref.ensures.value at c.fitting_ring.ensures))) c.gather_names.ensures
