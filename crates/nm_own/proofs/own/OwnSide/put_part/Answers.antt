use Rattle.std.proofs.Common.{◌≡◌, ◌∙◌, Some, refl, ap, sym}
use Rattle.nm_types.specs.declared.id.Side.TheVariants.{Tx}
use Rattle.nm_types.specs.OwnPorts.{OwnState, ring_at}
use Rattle.nm_own.specs.Acts.{front_slot_in}
use Rattle.nm_own.proofs.FramesPut.{part_there, part_nowhere}
use Rattle.nm_own.proofs.Written.{nothing_there}
use Rattle.nm_own.proofs.own.OwnSide.put_part.Goals as goal

pub returns-in-Some : goal.returns-in-Some
returns-in-Some c =
    let there : front_slot_in Tx (ring_at Tx c.args.self.now.own c.args.port.0) ≡ Some c.in-Some.slot = sym c.front_slot.ensures ∙ c.in-Some.is in
    rw (part_there c.args.port.0 c.args.more c.args.part.now c.in-Some.slot c.args.self.now.own there, c.edit.ensures, c.part_edit.ensures, c.write_front.ensures) refl

pub returns-in_default : goal.returns-in_default
returns-in_default c =
    ap (λ (o : OwnState). record c.args.self.now { own = o })
    (sym (part_nowhere c.args.port.0 c.args.more c.args.part.now c.args.self.now.own (sym c.front_slot.ensures ∙ nothing_there c.front_slot.result c.in_default.not-Some)))
