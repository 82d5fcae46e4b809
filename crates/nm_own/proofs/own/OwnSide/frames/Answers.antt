use Rattle.nm_types.specs.declared.id.Side.TheVariants.{Tx}
use Rattle.nm_port.proofs.Checked.{passed_whole}
use Rattle.nm_own.proofs.Offered.{frames_pushed}
use Rattle.nm_own.proofs.Passing.{passing_ring}
use Rattle.nm_own.proofs.own.OwnSide.frames.Goals as goal

pub fitting_ring-requires : goal.fitting_ring-requires
fitting_ring-requires c = rw c.deref.ensures.value (passing_ring c.self.inside c.args.self.now Tx c.args.port c.self.invariant c.self.view_is c.requires.ring c.requires.passes)

pub gather-requires-clause-ends : goal.gather-requires-clause-ends
gather-requires-clause-ends c =
    let kept = c.self.invariant in
    let ring = c.fitting_ring.result.now in
    let is = rw c.deref.ensures.value at c.fitting_ring.ensures in
    passed_whole c.self.inside.hold c.self.inside.ports.items c.args.port ring kept.sided is.ring is.at (rw (← c.self.view_is) at c.requires.passes)

pub returns : goal.returns
returns c =
    rw (← c.self.view_is, ← (frames_pushed c.self.inside.hold c.self.inside.ports.items c.args.port c.fitting_ring.result.now c.self.invariant.sided (rw c.deref.ensures.value at c.fitting_ring.ensures))) c.gather.ensures
