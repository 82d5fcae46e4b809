use Rattle.std.proofs.Common.{◌≡◌, ◌∙◌, sym, Some}
use Rattle.std.specs.Prelude.{position}
use Rattle.std.proofs.lemmas.List.Quantifiers.{position-Some}
use Rattle.nm_count.specs.Tallies.{is_port}
use Rattle.nm_count.proofs.TallyLemmas.{set-tally_after_add}
use Rattle.nm_count.proofs.tally.add_at.Goals as goal

pub returns-clause-sums : goal.returns-clause-sums
returns-clause-sums c =
    let ports = c.args.ports.now.items in
    let port = c.args.port.0 in
    let tallied = c.index_mut.result.now in
    let seen = sym c.place_of.ensures ∙ c.in-Some.is in
    let placed : position (is_port port) ports ≡ Some c.in-Some.at = rw c.deref.ensures.value at seen in
    let found = position-Some (is_port port) ports c.in-Some.at tallied placed in
    let sums = set-tally_after_add ports port c.in-Some.at c.args.more.now tallied c.requires.rising found.0 found.1 in
    let here = rw (← c.index_mut.ensures.value) at sums in
    rw c.add_counts.ensures here
