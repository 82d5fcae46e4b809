use Rattle.std.proofs.Common.{◌≡◌, ◌∙◌, sym, ap, None, Some, Option}
use Rattle.std.specs.Prelude.{position, option_map}
use Rattle.nm_count.specs.declared.tally.Tallied.{Tallied}
use Rattle.nm_count.specs.Tallies.{is_port}
use Rattle.nm_count.proofs.TallyLemmas.{blank, find_placed, find_unplaced}
use Rattle.nm_count.proofs.tally.counts_at.Goals as goal

pub returns-in-Some : goal.returns-in-Some
returns-in-Some c =
    let ports = c.args.ports.now in
    let port = c.args.port.0 in
    let placed : position (is_port port) ports ≡ Some c.in-Some.at = sym c.place_of.ensures ∙ c.in-Some.is in
    let found = find_placed (is_port port) ports c.in-Some.at blank placed in
    sym (ap (λ (o : Option Tallied). option_map (λ (t : Tallied). t.counts) o) found)

pub returns-in-None : goal.returns-in-None
returns-in-None c =
    let ports = c.args.ports.now in
    let port = c.args.port.0 in
    let unplaced : position (is_port port) ports ≡ None = sym c.place_of.ensures ∙ c.in-None.is in
    let missed = find_unplaced (is_port port) ports unplaced in
    sym (ap (λ (o : Option Tallied). option_map (λ (t : Tallied). t.counts) o) missed)
