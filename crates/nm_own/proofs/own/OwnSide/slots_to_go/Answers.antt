use Rattle.std.proofs.Common.{◌≡◌, ◌∙◌, Some, None, refl, sym}
use Rattle.nm_types.specs.declared.id.Side.TheVariants.{Tx, Rx}
use Rattle.nm_port.specs.RingSlots.{RingSlots}
use Rattle.nm_port.specs.Own.{slots_at}
use Rattle.nm_port.proofs.Checked.{ring_found, ring_not_found, side_found, tx_ring_found}
use Rattle.nm_own.proofs.Offered.{rx_ring_found}
use Rattle.nm_own.proofs.FramesForwarded.{goes_as_seen}
use Rattle.nm_own.proofs.own.OwnSide.slots_to_go.Goals as goal
use Rattle.nm_own.proofs.own.OwnSide.slots_to_go.Goals.{In-Some}

-- the receive ring that is found
got_there : (c : In-Some) → slots_at Rx c.self.inside.ports.items c.args.from.0 ≡ Some c.in-Some.got.now
got_there c = sym (rw (c.in-Some.is, c.deref.ensures.value) at c.ring_at.ensures)

pub returns-in-Some-ring_at : goal.returns-in-Some-ring_at
returns-in-Some-ring_at c =
    let h = c.self.inside.hold in
    let ports = c.self.inside.ports.items in
    let kept = c.self.invariant in
    let got = c.in-Some.got.now in
    let free = c.in-Some-ring_at.free.now in
    let one = got_there (goal.at.returns-in-Some-ring_at c).In-Some in
    let two : slots_at Tx ports c.args.to.0 ≡ Some free = sym (rw (c.in-Some-ring_at.is, c.deref-in-Some.ensures.value) at c.ring_at-in-Some.ensures) in
    let side = side_found ports Rx c.args.from got kept.sided one in
    rw (← c.self.view_is, ring_found h ports Rx c.args.from got one, ring_found h ports Tx c.args.to free two)
    (c.frame_to_go.ensures ∙ goes_as_seen c.args.whole h c.args.from c.args.to got free side (rx_ring_found ports c.args.from got kept.rings one) (tx_ring_found ports c.args.to free kept.rings two))

pub returns-in-None-ring_at : goal.returns-in-None-ring_at
returns-in-None-ring_at c =
    let h = c.self.inside.hold in
    let ports = c.self.inside.ports.items in
    let one = got_there (goal.at.returns-in-None-ring_at c).In-Some in
    let none : None ≡ slots_at Tx ports c.args.to.0 = rw (c.in-None-ring_at.is, c.deref-in-Some.ensures.value) at c.ring_at-in-Some.ensures in
    rw (← c.self.view_is, ring_found h ports Rx c.args.from c.in-Some.got.now one, ring_not_found h ports Tx c.args.to.0 (sym none)) refl

pub returns-in-None : goal.returns-in-None
returns-in-None c =
    let h = c.self.inside.hold in
    let ports = c.self.inside.ports.items in
    let none : None ≡ slots_at Rx ports c.args.from.0 = rw (c.in-None.is, c.deref.ensures.value) at c.ring_at.ensures in
    rw (← c.self.view_is, ring_not_found h ports Rx c.args.from.0 (sym none)) refl
