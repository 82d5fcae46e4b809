use Rattle.std.proofs.Common.{◌≡◌, ◌∙◌, Some, None, refl, sym}
use Rattle.nm_types.specs.declared.id.Side.TheVariants.{Tx}
use Rattle.nm_types.specs.Parts.{slots_of_length}
use Rattle.nm_types.proofs.PartLemmas.{slots-some}
use Rattle.nm_port.specs.Own.{slots_at, ring_seen}
use Rattle.nm_port.proofs.Checked.{ring_found, ring_not_found, tx_ring_found}
use Rattle.nm_own.proofs.RingTests.{has_slots-ahead}
use Rattle.nm_own.proofs.own.OwnSide.has_room.Goals as goal

pub returns-in-Some : goal.returns-in-Some
returns-in-Some c =
    let h = c.self.inside.hold in
    let ports = c.self.inside.ports.items in
    let ring = c.in-Some.ring.now in
    let there : slots_at Tx ports c.args.port.0 ≡ Some ring = sym (rw (c.in-Some.is, c.deref.ensures.value) at c.ring_at.ensures) in
    let is = tx_ring_found ports c.args.port ring c.self.invariant.rings there in
    rw (← c.self.view_is, ring_found h ports Tx c.args.port ring there, c.slots.ensures.slots, c.slots_ahead.ensures.ahead)
    (sym (has_slots-ahead (slots_of_length c.args.len) (ring_seen h c.args.port ring) is (slots-some c.args.len)))

pub returns-in-None : goal.returns-in-None
returns-in-None c =
    let none : None ≡ slots_at Tx c.self.inside.ports.items c.args.port.0 = rw (c.in-None.is, c.deref.ensures.value) at c.ring_at.ensures in
    rw (← c.self.view_is, ring_not_found c.self.inside.hold c.self.inside.ports.items Tx c.args.port.0 (sym none)) refl
