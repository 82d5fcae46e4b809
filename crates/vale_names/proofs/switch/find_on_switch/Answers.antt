use Rattle.std.proofs.Common.{[], ◌≡◌, ◌∙◌, sym, Some, None}
use Rattle.std.specs.Prelude.{position}
use Rattle.std.proofs.lemmas.List.Quantifiers.{position-Some}
use Rattle.nm_types.specs.Names.{switch_of}
use Rattle.vale_names.specs.Switches.{is_for, ports_on}
use Rattle.vale_names.proofs.PortLemmas.{filter_none_pass}
use Rattle.vale_names.proofs.SwitchLemmas.{finds_beside, ports_at, places_none, position_none}
use Rattle.vale_names.proofs.switch.find_on_switch.Goals as goal
use Rattle.vale_names.proofs.PortRules.{is_on_switch}

pub returns-in-Some : goal.returns-in-Some
returns-in-Some c =
    let places = c.args.places.now in
    let name = c.args.name.now in
    let d = c.index-places-at.result in
    let told : position (is_for (switch_of name)) places ≡ Some c.in-Some.at = sym c.place_of.ensures ∙ c.in-Some.is in
    let found = position-Some (is_for (switch_of name)) places c.in-Some.at d told in
    let beside = ports_at (switch_of name) places c.in-Some.at d c.requires.places found.0 found.1 in
    c.find.ensures ∙ sym (finds_beside (ports_on places) name _ c.requires.kind beside)

pub returns-in-None : goal.returns-in-None
returns-in-None c =
    let places = c.args.places.now in
    let name = c.args.name.now in
    let told : position (is_for (switch_of name)) places ≡ None = sym c.place_of.ensures ∙ c.in-None.is in
    let none = places_none (switch_of name) places c.requires.places (position_none (is_for (switch_of name)) places told) in
    let beside = filter_none_pass (is_on_switch (switch_of name)) (ports_on places) none in
    sym (finds_beside (ports_on places) name [] c.requires.kind beside)
