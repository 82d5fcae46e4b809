use Rattle.std.proofs.Common.{◌∙◌, sym, refl}
use Rattle.nm_own.proofs.Written.{fronted_is_seen, not_written, fronted_inside}
use Rattle.nm_types.specs.OwnEdits.{with_written}
use Rattle.nm_port.proofs.Regions.{same_side, regions_fronted}
use Rattle.nm_own.proofs.own.OwnSide.write_front.Goals as goal

pub invariant_of-self : goal.invariant_of-self
invariant_of-self c = fronted_inside c.self.inside c.write.new.self c.args.idx c.args.bytes.now c.self.invariant c.requires c.write.ensures.cell c.write.ensures.places c.write.ensures.hold

pub returns-then-named : goal.returns-then-named
returns-then-named c =
    let kept = c.self.invariant in
    let h = c.self.inside.hold in
    let ports = c.self.inside.ports.items in
    same_side h c.write.new.self ports ports c.args.self.now (with_written c.args.idx c.args.bytes.now) c.self.view_is (regions_fronted c.args.bytes.now h c.write.new.self c.args.idx c.write.ensures.cell)
    (fronted_is_seen h c.write.new.self ports c.args.idx c.args.bytes.now kept.hold kept.sided kept.rings kept.flagged kept.filled (sym c.named.ensures.named ∙ c.if-named.true) c.write.ensures.cell c.write.ensures.places)

pub returns-else-named : goal.returns-else-named
returns-else-named c =
    let kept = c.self.invariant in
    let h = c.self.inside.hold in
    let ports = c.self.inside.ports.items in
    sym c.self.view_is ∙ same_side h h ports ports c.args.self.now (with_written c.args.idx c.args.bytes.now) c.self.view_is refl (not_written h ports c.args.idx c.args.bytes.now kept.hold kept.sided kept.rings kept.flagged kept.filled (sym c.named.ensures.named ∙ c.if-named.false))
