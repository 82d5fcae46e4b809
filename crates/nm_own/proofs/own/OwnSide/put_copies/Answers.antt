use Rattle.std.proofs.Common.{◌≡◌, ◌∙◌, Some, None, sym, ap}
use Rattle.std.specs.Prelude.{position}
use Rattle.nm_port.specs.Closing.{has_id}
use Rattle.nm_own.proofs.PutCopies.{port_sided, kept_put, copies_put, side_put, none_put}
use Rattle.nm_own.proofs.own.OwnSide.put_copies.Goals as goal

pub put_on-requires-clause-side : goal.put_on-requires-clause-side
put_on-requires-clause-side c =
    let place : position (has_id c.args.port.0) c.self.inside.ports.items ≡ Some c.in-Some.at = ap (position (has_id c.args.port.0)) (sym c.deref.ensures.value) ∙ (sym c.place_of_port.ensures ∙ c.in-Some.is) in
    port_sided c.self.inside c.self.invariant c.args.port c.index_mut.result.now c.in-Some.at place c.index_mut.ensures.value

pub invariant_of-self : goal.invariant_of-self
invariant_of-self c =
    let place : position (has_id c.args.port.0) c.self.inside.ports.items ≡ Some c.in-Some.at = ap (position (has_id c.args.port.0)) (sym c.deref.ensures.value) ∙ (sym c.place_of_port.ensures ∙ c.in-Some.is) in
    kept_put c.self.inside c.self.invariant c.args.port c.index_mut.result.now c.in-Some.at place c.index_mut.ensures.value c.args.count c.put_on.result c.put_on.new.hold c.put_on.new.port c.args.bytes.now
    c.requires c.put_on.ensures.put c.put_on.ensures.port

pub returns-in-Some-clause-copies : goal.returns-in-Some-clause-copies
returns-in-Some-clause-copies c =
    let place : position (has_id c.args.port.0) c.self.inside.ports.items ≡ Some c.in-Some.at = ap (position (has_id c.args.port.0)) (sym c.deref.ensures.value) ∙ (sym c.place_of_port.ensures ∙ c.in-Some.is) in
    copies_put c.self.inside c.self.invariant c.args.port c.index_mut.result.now c.in-Some.at place c.index_mut.ensures.value c.args.count c.put_on.result c.put_on.new.hold c.put_on.new.port c.args.bytes.now
    c.requires c.put_on.ensures.put c.put_on.ensures.port c.args.self.now c.self.view_is

pub returns-in-Some-clause-own : goal.returns-in-Some-clause-own
returns-in-Some-clause-own c =
    let place : position (has_id c.args.port.0) c.self.inside.ports.items ≡ Some c.in-Some.at = ap (position (has_id c.args.port.0)) (sym c.deref.ensures.value) ∙ (sym c.place_of_port.ensures ∙ c.in-Some.is) in
    side_put c.self.inside c.self.invariant c.args.port c.index_mut.result.now c.in-Some.at place c.index_mut.ensures.value c.args.count c.put_on.result c.put_on.new.hold c.put_on.new.port c.args.bytes.now
    c.requires c.put_on.ensures.put c.put_on.ensures.port c.args.self.now c.self.view_is

pub returns-in-None-clause-copies : goal.returns-in-None-clause-copies
returns-in-None-clause-copies c =
    let none : position (has_id c.args.port.0) c.self.inside.ports.items ≡ None = ap (position (has_id c.args.port.0)) (sym c.deref.ensures.value) ∙ (sym c.place_of_port.ensures ∙ c.in-None.is) in
    none_put c.args.count c.self.inside.hold c.self.inside.ports.items c.args.port.0 c.args.bytes.now c.args.self.now none c.self.view_is
