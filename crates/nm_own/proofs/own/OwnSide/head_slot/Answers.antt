use Rattle.std.proofs.Common.{◌≡◌, Some, None, refl, sym}
use Rattle.nm_port.specs.Own.{slots_at}
use Rattle.nm_port.proofs.Checked.{ring_found, ring_not_found, side_found}
use Rattle.nm_own.proofs.RingTests.{rings_seen}
use Rattle.nm_own.proofs.Written.{head_slot_seen}
use Rattle.nm_own.proofs.own.OwnSide.head_slot.Goals as goal

pub returns-in-Some-clause-slot : goal.returns-in-Some-clause-slot
returns-in-Some-clause-slot c =
    let ports = c.self.inside.ports.items in
    let there : Some c.in-Some.ring.now ≡ slots_at c.args.side ports c.args.port.0 = rw (c.in-Some.is, c.deref.ensures.value) at c.ring_at.ensures in
    let side = side_found ports c.args.side c.args.port c.in-Some.ring.now c.self.invariant.sided (sym there) in
    rw (← c.self.view_is, ring_found c.self.inside.hold ports c.args.side c.args.port c.in-Some.ring.now (sym there), c.slot_at_head.ensures) (head_slot_seen c.self.inside.hold c.args.port c.args.side c.in-Some.ring.now side)

pub returns-in-None-clause-slot : goal.returns-in-None-clause-slot
returns-in-None-clause-slot c =
    let ports = c.self.inside.ports.items in
    let none : None ≡ slots_at c.args.side ports c.args.port.0 = rw (c.in-None.is, c.deref.ensures.value) at c.ring_at.ensures in
    rw (← c.self.view_is, ring_not_found c.self.inside.hold ports c.args.side c.args.port.0 (sym none)) refl

pub returns-in-Some-clause-ring : goal.returns-in-Some-clause-ring
returns-in-Some-clause-ring c = rw (← c.self.view_is) (rings_seen c.args.side c.self.inside.hold c.self.inside.ports.items c.args.port c.self.invariant.rings)

pub returns-in-None-clause-ring : goal.returns-in-None-clause-ring
returns-in-None-clause-ring c = rw (← c.self.view_is) (rings_seen c.args.side c.self.inside.hold c.self.inside.ports.items c.args.port c.self.invariant.rings)
