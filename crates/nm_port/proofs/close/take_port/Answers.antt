use Rattle.std.proofs.Common.{◌≡◌, ◌∙◌, Some, None, sym, ap}
use Rattle.std.specs.Prelude.{position}
use Rattle.nm_port.specs.Closing.{has_id}
use Rattle.nm_port.proofs.PortOut.{taken_is, others_are_left, none_there}
use Rattle.nm_port.proofs.close.take_port.Goals as goal

pub unreachable-requires : goal.unreachable-requires
unreachable-requires c =
    let id = c.args.port.0 in
    let ports = c.args.ports.now.items in
    let none : position (has_id id) ports ≡ None = ap (position (has_id id)) (sym c.deref.ensures.value) ∙ (sym c.place_of_port.ensures ∙ c.in-None.is) in
    none_there id ports none c.requires.there

pub returns-clause-port : goal.returns-clause-port
returns-clause-port c =
    let id = c.args.port.0 in
    let ports = c.args.ports.now.items in
    let found : position (has_id id) ports ≡ Some c.in-Some.at = ap (position (has_id id)) (sym c.deref.ensures.value) ∙ (sym c.place_of_port.ensures ∙ c.in-Some.is) in
    taken_is id ports c.in-Some.at c.remove.result found c.remove.ensures.value

pub returns-clause-others : goal.returns-clause-others
returns-clause-others c =
    let id = c.args.port.0 in
    let ports = c.args.ports.now.items in
    let found : position (has_id id) ports ≡ Some c.in-Some.at = ap (position (has_id id)) (sym c.deref.ensures.value) ∙ (sym c.place_of_port.ensures ∙ c.in-Some.is) in
    c.remove.ensures.items ∙ others_are_left id ports c.in-Some.at found c.requires.once
