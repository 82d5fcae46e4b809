use Rattle.std.proofs.Common.{◌≡◌, ◌∙◌, map, None, refl, sym, ap}
use Rattle.std.specs.Vec.{with_items}
use Rattle.nm_types.specs.declared.id.PortId.{PortId}
use Rattle.nm_types.specs.declared.id.Side.TheVariants.{Tx}
use Rattle.nm_types.specs.OwnSyncs.{own_after_send}
use Rattle.nm_port.specs.declared.port.UserPort.{UserPort}
use Rattle.nm_port.specs.Own.{slots_at, own_seen, port_changed_if}
use Rattle.nm_port.specs.Exchanges.{pushed_count_of, ring_pushed_out}
use Rattle.nm_port.proofs.Checked.{no_ring}
use Rattle.nm_own.proofs.KeptPorts.{changed_over}
use Rattle.nm_own.proofs.Passing.{Passes, passes_of}
use Rattle.nm_own.proofs.Pushed.{tx_side, can_exchange, slots_held, all_have_room, can_accept, kept_after, sent_is_seen}
use Rattle.nm_port.proofs.Regions.{same_side, same_bufs}
use Rattle.nm_own.proofs.own.OwnSide.sent.Goals as goal
use Rattle.nm_own.proofs.own.OwnSide.sent.Goals.{In-Some}

-- the ring that was found passes the checks
passing : (c : In-Some) → (p : UserPort) × Passes c.self.inside.hold c.self.inside.ports.items Tx c.args.port p c.in-Some.ring.now
passing c = passes_of c.self.inside Tx c.args.port c.in-Some.ring.now c.self.invariant (sym (rw (c.in-Some.is, c.deref.ensures.value) at c.ring_at.ensures)) (rw (← c.self.view_is) at c.requires.passes)

pub send_out-taken-requires-clause-can : goal.send_out-taken-requires-clause-can
send_out-taken-requires-clause-can c =
    let x = passing (goal.at.send_out-taken-requires-clause-can c).In-Some in
    can_exchange c.self.inside.hold c.self.inside.ports.items c.args.port x.0 c.in-Some.ring.now x.1

pub send_out-taken-requires-clause-side : goal.send_out-taken-requires-clause-side
send_out-taken-requires-clause-side c =
    let x = passing (goal.at.send_out-taken-requires-clause-side c).In-Some in
    tx_side c.self.inside.hold c.self.inside.ports.items c.args.port x.0 c.in-Some.ring.now x.1

pub send_out-taken-requires-clause-held : goal.send_out-taken-requires-clause-held
send_out-taken-requires-clause-held c =
    let x = passing (goal.at.send_out-taken-requires-clause-held c).In-Some in
    slots_held c.self.inside.hold c.self.inside.ports.items c.args.port x.0 c.in-Some.ring.now x.1

pub unreachable-requires : goal.unreachable-requires
unreachable-requires c =
    let none : None ≡ slots_at Tx c.self.inside.ports.items c.args.port.0 = rw (c.in-None.is, c.deref.ensures.value) at c.ring_at.ensures in
    no_ring c.self.inside.hold c.self.inside.ports.items Tx c.args.port.0 (sym none) (rw (← c.self.view_is) at c.requires.ring)

pub accept_pushes-requires : goal.accept_pushes-requires
accept_pushes-requires c =
    let x = passing (goal.at.accept_pushes-requires c).In-Some in
    let r = c.in-Some.ring.now in
    rw (c.deref_mut.ensures.value, c.send_out-taken.ensures.count)
    (can_accept c.self.inside.hold c.self.inside.ports.items c.args.port x.0 r x.1 (pushed_count_of r) (all_have_room c.self.inside.hold c.self.inside.ports.items c.args.port x.0 r x.1))

-- the ports once the push is accepted
ports_are : (c : goal.After-self-1) → (with_items c.self.inside.ports c.accept_pushes.new.ports).items
    ≡ map (port_changed_if c.args.port.0 Tx (λ (of : PortId). ring_pushed_out (pushed_count_of c.in-Some.ring.now))) c.self.inside.ports.items
ports_are c =
    changed_over c.self.inside.ports (port_changed_if c.args.port.0 Tx (λ (of : PortId). ring_pushed_out (pushed_count_of c.in-Some.ring.now))) c.accept_pushes.new.ports
    (rw (c.send_out-taken.ensures.count, c.deref_mut.ensures.value) at c.accept_pushes.ensures)

pub invariant_of-self : goal.invariant_of-self
invariant_of-self c =
    let h = c.self.inside.hold in
    let ports = c.self.inside.ports.items in
    let r = c.in-Some.ring.now in
    let x = passing (goal.at.invariant_of-self c).In-Some in
    kept_after h ports c.args.port x.0 r x.1 (pushed_count_of r) (all_have_room h ports c.args.port x.0 r x.1) c.send_out-taken.new.hold c.send_out-taken.ensures.out
    c.self.inside c.self.invariant _ refl refl refl (ports_are c) refl

pub returns : goal.returns
returns c =
    let h = c.self.inside.hold in
    let ports = c.self.inside.ports.items in
    let r = c.in-Some.ring.now in
    let x = passing (goal.at.returns c).In-Some in
    let now = c.send_out-taken.new.hold in
    same_side h now ports _ c.args.self.now (own_after_send c.args.port.0) c.self.view_is (same_bufs h now c.send_out-taken.ensures.out.bufs)
    (ap (own_seen now) (ports_are c) ∙ sent_is_seen h ports c.args.port x.0 r x.1 (pushed_count_of r) (all_have_room h ports c.args.port x.0 r x.1) now c.send_out-taken.ensures.out refl)
