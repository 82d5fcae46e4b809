use Rattle.std.proofs.Common.{◌∙◌}
use Rattle.nm_types.specs.declared.id.Side.TheVariants.{Tx}
use Rattle.nm_own.proofs.Offered.{pushed_length}
use Rattle.nm_own.proofs.Passing.{passing_ring}
use Rattle.nm_own.proofs.own.OwnSide.pushed_count.Goals as goal

pub fitting_ring-requires : goal.fitting_ring-requires
fitting_ring-requires c = rw c.deref.ensures.value (passing_ring c.self.inside c.args.self.now Tx c.args.port c.self.invariant c.self.view_is c.requires.ring c.requires.passes)

pub pushed-requires : goal.pushed-requires
pushed-requires c = c.fitting_ring.ensures.fits.head_within

pub returns : goal.returns
returns c =
    let ring = c.fitting_ring.result.now in
    let is = rw c.deref.ensures.value at c.fitting_ring.ensures in
    c.pushed.ensures.count ∙ rw (← c.self.view_is) (pushed_length c.self.inside.hold c.self.inside.ports.items c.args.port ring is.at)
