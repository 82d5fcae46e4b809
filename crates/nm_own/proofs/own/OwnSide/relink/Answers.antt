use Rattle.std.proofs.Common.{◌∙◌, sym, refl, arith}
use Rattle.nm_types.specs.Chain.{link_bytes}
use Rattle.nm_own.proofs.Written.{fronted_is_seen, not_written, fronted_inside}
use Rattle.nm_types.specs.OwnEdits.{with_written}
use Rattle.nm_port.proofs.Regions.{same_side, regions_fronted}
use Rattle.nm_own.proofs.own.OwnSide.relink.Goals as goal

pub invariant_of-self : goal.invariant_of-self
invariant_of-self c = fronted_inside c.self.inside c.relink.new.hold c.args.idx (link_bytes c.args.next) c.self.invariant (omega arith) c.relink.ensures.cell c.relink.ensures.places c.relink.ensures.hold

pub returns-then-named : goal.returns-then-named
returns-then-named c =
    let kept = c.self.invariant in
    let h = c.self.inside.hold in
    let ports = c.self.inside.ports.items in
    same_side h c.relink.new.hold ports ports c.args.self.now (with_written c.args.idx (link_bytes c.args.next)) c.self.view_is (regions_fronted (link_bytes c.args.next) h c.relink.new.hold c.args.idx c.relink.ensures.cell)
    (fronted_is_seen h c.relink.new.hold ports c.args.idx (link_bytes c.args.next) kept.hold kept.sided kept.rings kept.flagged kept.filled (sym c.named.ensures.named ∙ c.if-named.true) c.relink.ensures.cell c.relink.ensures.places)

pub returns-else-named : goal.returns-else-named
returns-else-named c =
    let kept = c.self.invariant in
    let h = c.self.inside.hold in
    let ports = c.self.inside.ports.items in
    sym c.self.view_is ∙ same_side h h ports ports c.args.self.now (with_written c.args.idx (link_bytes c.args.next)) c.self.view_is refl (not_written h ports c.args.idx (link_bytes c.args.next) kept.hold kept.sided kept.rings kept.flagged kept.filled (sym c.named.ensures.named ∙ c.if-named.false))
