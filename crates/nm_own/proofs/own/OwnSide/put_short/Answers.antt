use Rattle.std.proofs.Common.{◌≡◌, ◌∙◌, Some, refl, ap, sym}
use Rattle.nm_types.specs.declared.id.Side.TheVariants.{Tx}
use Rattle.nm_types.specs.OwnPorts.{OwnState, ring_at}
use Rattle.nm_own.specs.Acts.{head_slot_in}
use Rattle.nm_own.proofs.Written.{head_has, head_lacks, nothing_there}
use Rattle.nm_own.proofs.own.OwnSide.put_short.Goals as goal

pub returns-in-Some : goal.returns-in-Some
returns-in-Some c =
    let there : head_slot_in Tx (ring_at Tx c.args.self.now.own c.args.port.0) ≡ Some c.in-Some.slot = sym c.head_slot.ensures.slot ∙ c.in-Some.is in
    rw (head_has c.args.self.now.own c.args.port.0 c.args.bytes.now c.in-Some.slot c.head_slot.ensures.ring c.requires there, c.edit.ensures, c.write_front.ensures) refl

pub returns-in_default : goal.returns-in_default
returns-in_default c =
    ap (λ (o : OwnState). record c.args.self.now { own = o }) (sym (head_lacks c.args.self.now.own c.args.port.0 c.args.bytes.now c.head_slot.ensures.ring c.requires (sym c.head_slot.ensures.slot ∙ nothing_there c.head_slot.result c.in_default.not-Some)))
