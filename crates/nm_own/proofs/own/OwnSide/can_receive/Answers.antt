use Rattle.std.proofs.Common.{◌≡◌, Some, None, refl, sym}
use Rattle.nm_types.specs.declared.id.Side.TheVariants.{Rx}
use Rattle.nm_port.specs.Own.{slots_at}
use Rattle.nm_port.proofs.Checked.{ring_found, ring_not_found}
use Rattle.nm_own.proofs.own.OwnSide.can_receive.Goals as goal

pub returns-in-Some : goal.returns-in-Some
returns-in-Some c =
    let there : slots_at Rx c.self.inside.ports.items c.args.port.0 ≡ Some c.in-Some.ring.now = sym (rw (c.in-Some.is, c.deref.ensures.value) at c.ring_at.ensures) in
    rw (← c.self.view_is, ring_found c.self.inside.hold c.self.inside.ports.items Rx c.args.port c.in-Some.ring.now there) c.has_free_slot.ensures

pub returns-in-None : goal.returns-in-None
returns-in-None c =
    let none : None ≡ slots_at Rx c.self.inside.ports.items c.args.port.0 = rw (c.in-None.is, c.deref.ensures.value) at c.ring_at.ensures in
    rw (← c.self.view_is, ring_not_found c.self.inside.hold c.self.inside.ports.items Rx c.args.port.0 (sym none)) refl
