use Rattle.std.proofs.Common.{◌≡◌, ◌∙◌, sym, Some}
use Rattle.nm_types.specs.Names.{switch_of}
use Rattle.vale_names.specs.Switches.{place_for}
use Rattle.vale_names.proofs.SwitchLemmas.{opened_joins, opened_places}
use Rattle.vale_names.proofs.switch.open_on_switch.Goals as goal

pub returns-in-Some-clause-joined : goal.returns-in-Some-clause-joined
returns-in-Some-clause-joined c =
    let told : place_for c.args.places.now (switch_of c.args.name.now) ≡ Some c.in-Some.at = sym c.place_for.ensures ∙ c.in-Some.is in
    opened_joins c.args.places.now c.args.name.now c.args.id c.in-Some.at c.index-places-at.result c.open.new.self c.open.result c.requires.places told c.open.ensures.joined

pub returns-in-Some-clause-places : goal.returns-in-Some-clause-places
returns-in-Some-clause-places c =
    let told : place_for c.args.places.now (switch_of c.args.name.now) ≡ Some c.in-Some.at = sym c.place_for.ensures ∙ c.in-Some.is in
    opened_places c.args.places.now c.args.name.now c.args.id c.in-Some.at c.index-places-at.result c.open.new.self c.open.result c.requires.places c.requires.kind told
    c.open.ensures.joined c.open.ensures.label c.open.ensures.most c.open.ensures.err c.open.ensures.refusal
