use Rattle.std.proofs.Common.{◌≡◌, ◌∙◌, Some, None, sym}
use Rattle.nm_port.specs.Own.{port_at}
use Rattle.nm_own.proofs.Closing.{has_port, extra_small, buffers_count, no_buffers, buffers_once, none_once}
use Rattle.nm_own.proofs.own.OwnSide.buffer_count.Goals as goal

pub place_count-requires : goal.place_count-requires
place_count-requires c =
    let there : port_at c.self.inside.ports.items c.args.port.0 ≡ Some c.in-Some.port.now = sym (rw (c.in-Some.is, c.deref.ensures.value) at c.port_at.ensures) in
    let has = has_port c.self.inside c.args.port c.in-Some.port.now c.self.invariant there in
    extra_small c.self.inside.hold c.self.inside.ports.items c.args.port c.in-Some.port.now has

pub returns-in-Some-clause-count : goal.returns-in-Some-clause-count
returns-in-Some-clause-count c =
    let there : port_at c.self.inside.ports.items c.args.port.0 ≡ Some c.in-Some.port.now = sym (rw (c.in-Some.is, c.deref.ensures.value) at c.port_at.ensures) in
    let has = has_port c.self.inside c.args.port c.in-Some.port.now c.self.invariant there in
    rw (← c.self.view_is) (c.place_count.ensures ∙ buffers_count c.self.inside.hold c.self.inside.ports.items c.args.port c.in-Some.port.now has)

pub returns-in-None-clause-count : goal.returns-in-None-clause-count
returns-in-None-clause-count c =
    let none : None ≡ port_at c.self.inside.ports.items c.args.port.0 = rw (c.in-None.is, c.deref.ensures.value) at c.port_at.ensures in
    rw (← c.self.view_is) (no_buffers c.self.inside.hold c.self.inside.ports.items c.args.port.0 (sym none))

pub returns-in-Some-clause-once : goal.returns-in-Some-clause-once
returns-in-Some-clause-once c =
    let there : port_at c.self.inside.ports.items c.args.port.0 ≡ Some c.in-Some.port.now = sym (rw (c.in-Some.is, c.deref.ensures.value) at c.port_at.ensures) in
    let has = has_port c.self.inside c.args.port c.in-Some.port.now c.self.invariant there in
    rw (← c.self.view_is) (buffers_once c.self.inside.hold c.self.inside.ports.items c.args.port c.in-Some.port.now has)

pub returns-in-None-clause-once : goal.returns-in-None-clause-once
returns-in-None-clause-once c =
    let none : None ≡ port_at c.self.inside.ports.items c.args.port.0 = rw (c.in-None.is, c.deref.ensures.value) at c.port_at.ensures in
    rw (← c.self.view_is) (none_once c.self.inside.hold c.self.inside.ports.items c.args.port.0 (sym none))
