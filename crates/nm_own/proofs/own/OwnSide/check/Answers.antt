use Rattle.std.proofs.Common.{◌≡◌, ◌∙◌, false, Option, Some, None, sym, ap}
use Rattle.std.specs.Prelude.{option_and_then}
use Rattle.std.specs.Option.{option_map_or}
use Rattle.nm_types.specs.OwnPorts.{named_of}
use Rattle.nm_port.specs.declared.port.UserPort.{UserPort}
use Rattle.nm_port.specs.Own.{own_seen, port_at, slots_on, slots_at, is_whole_port, whole_at}
use Rattle.nm_port.proofs.Checked.{no_ring, refusal_is_seen}
use Rattle.nm_own.proofs.Naming.{are_named}
use Rattle.nm_own.proofs.NamedSlots.{have_named}
use Rattle.nm_own.proofs.own.OwnSide.check.Goals as goal
use Rattle.nm_own.proofs.own.OwnSide.check.Goals.{In-Some, In-Some-ring_on}

-- the port that is found, and its ring
port_there : (c : In-Some) → port_at c.self.inside.ports.items c.args.port.0 ≡ Some c.in-Some.own.now
port_there c = sym (rw (c.in-Some.is, c.deref.ensures.value) at c.port_at.ensures)

ring_there : (c : In-Some-ring_on) → port_at c.self.inside.ports.items c.args.port.0 ≡ Some c.in-Some.own.now → slots_at c.args.side c.self.inside.ports.items c.args.port.0 ≡ Some c.in-Some-ring_on.ring.now
ring_there c there = ap (option_and_then (slots_on c.args.side)) there ∙ sym (rw c.in-Some-ring_on.is at c.ring_on.ensures)

pub unreachable-requires : goal.unreachable-requires
unreachable-requires c =
    let there = port_there (goal.at.unreachable-requires c).In-Some in
    let none : None ≡ slots_on c.args.side c.in-Some.own.now = rw c.in-None-ring_on.is at c.ring_on.ensures in
    no_ring c.self.inside.hold c.self.inside.ports.items c.args.side c.args.port.0 (ap (option_and_then (slots_on c.args.side)) there ∙ sym none) (rw (← c.self.view_is) at c.requires)

pub unreachable-requires-in-None : goal.unreachable-requires-in-None
unreachable-requires-in-None c =
    let none : None ≡ port_at c.self.inside.ports.items c.args.port.0 = rw (c.in-None.is, c.deref.ensures.value) at c.port_at.ensures in
    no_ring c.self.inside.hold c.self.inside.ports.items c.args.side c.args.port.0 (ap (option_and_then (slots_on c.args.side)) (sym none)) (rw (← c.self.view_is) at c.requires)

pub check_named_ring-requires-clause-named : goal.check_named_ring-requires-clause-named
check_named_ring-requires-clause-named c =
    let at = goal.at.check_named_ring-requires-clause-named c in
    have_named c.self.inside c.self.invariant c.args.side c.args.port c.in-Some-ring_on.ring.now (ring_there at.In-Some-ring_on (port_there at.In-Some))

pub returns-clause-refusal : goal.returns-clause-refusal
returns-clause-refusal c =
    let h = c.self.inside.hold in
    let ports = c.self.inside.ports.items in
    let kept = c.self.invariant in
    let at = goal.at.returns-clause-refusal c in
    let there = port_there at.In-Some in
    let whole : whole_at ports c.args.port.0 ≡ c.is_pipe-whole.result = ap (λ (o : Option UserPort). option_map_or is_whole_port o false) there ∙ sym c.is_pipe-whole.ensures in
    rw (← c.self.view_is, refusal_is_seen h ports c.args.side c.args.port c.in-Some-ring_on.ring.now kept.sided c.check_named_ring.ensures.slots.ring (ring_there at.In-Some-ring_on there), whole)
    (c.check_named_ring.ensures.refusal (named_of (own_seen h ports)) (are_named h ports kept.sided kept.rings kept.flagged))
