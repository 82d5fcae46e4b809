use Rattle.std.proofs.Common.{◌≡◌, nat_eq, find, Option, Some, None, sym, ◌∙◌, ap, rules}
use Rattle.std.specs.Option.{option_map_or}
use Rattle.nm_hold.specs.declared.table.PortTable.{PortTable}
use Rattle.nm_hold.specs.Holds.{port_of}
use Rattle.nm_hold.specs.Tables.{number_in}
use Rattle.nm_hold.proofs.Finding.{number-found, found_is_table}
use Rattle.nm_hold.proofs.ports.Ports.number.Goals as goal

pub number-requires : goal.number-requires
number-requires c =
    let tables = c.args.self.now.tables in
    let found : find (λ (t : PortTable). nat_eq t.places.port.0 (port_of c.args.place)) tables ≡ Some c.in-Some.table.now = search rules in
    found_is_table tables (port_of c.args.place) c.in-Some.table.now c.requires found

pub returns-in-Some : goal.returns-in-Some
returns-in-Some c =
    let tables = c.args.self.now.tables in
    let found : find (λ (t : PortTable). nat_eq t.places.port.0 (port_of c.args.place)) tables ≡ Some c.in-Some.table.now = search rules in
    let number = number-found tables c.args.place c.table.ensures.once in
    c.number.ensures ∙ sym (number ∙ ap (λ (o : Option PortTable). option_map_or (λ (t : PortTable). number_in t c.args.place) o 0) found)

pub returns-in-None : goal.returns-in-None
returns-in-None c =
    let tables = c.args.self.now.tables in
    let found : find (λ (t : PortTable). nat_eq t.places.port.0 (port_of c.args.place)) tables ≡ None = search rules in
    let number = number-found tables c.args.place c.table.ensures.once in
    sym (number ∙ ap (λ (o : Option PortTable). option_map_or (λ (t : PortTable). number_in t c.args.place) o 0) found)
