use Rattle.std.proofs.Common.{◌≡◌, ◌∙◌, nat_eq, Option, Some, refl, ap, rules}
use Rattle.std.specs.HashMap.{get}
use Rattle.nm_hold.specs.declared.table.PortTable.{PortTable}
use Rattle.nm_hold.specs.Holds.{port_of}
use Rattle.nm_hold.specs.Indexed.{number_in_row, port_at}
use Rattle.nm_hold.proofs.Finding.{row_read, row_is_table, within_rows, apart-indexed, put-row, indexed-put, number-row}
use Rattle.nm_hold.proofs.ports.Ports.replace.Goals as goal

pub replace_at-requires : goal.replace_at-requires
replace_at-requires c =
    let rows = c.self.inside.rows.items in
    let there : port_at rows 0 ≡ Some (port_of c.args.place) = search rules in
    let read = row_read rows 0 c.index_mut.result.now (within_rows rows 0 (port_of c.args.place) there) c.index_mut.ensures.value in
    rw read (row_is_table rows 0 (rw (← c.self.view_is) at c.requires))

pub invariant_of-self : goal.invariant_of-self
invariant_of-self c =
    let rows = c.self.inside.rows.items in
    let there : port_at rows 0 ≡ Some (port_of c.args.place) = search rules in
    let read = row_read rows 0 c.index_mut.result.now (within_rows rows 0 (port_of c.args.place) there) c.index_mut.ensures.value in
    rw (c.replace_at.ensures.row, read) (indexed-put rows (get nat_eq c.self.inside.indices) 0 c.args.place c.args.number c.self.invariant)

pub returns-then-is_first-clause-tables : goal.returns-then-is_first-clause-tables
returns-then-is_first-clause-tables c =
    let rows = c.self.inside.rows.items in
    let there : port_at rows 0 ≡ Some (port_of c.args.place) = search rules in
    let read = row_read rows 0 c.index_mut.result.now (within_rows rows 0 (port_of c.args.place) there) c.index_mut.ensures.value in
    let put = put-row rows 0 c.args.place c.args.number (apart-indexed rows (get nat_eq c.self.inside.indices) c.self.invariant) there in
    rw (← c.self.view_is, put, c.replace_at.ensures.row, read) refl

pub returns-then-is_first-clause-number : goal.returns-then-is_first-clause-number
returns-then-is_first-clause-number c =
    let rows = c.self.inside.rows.items in
    let index = get nat_eq c.self.inside.indices in
    let there : port_at rows 0 ≡ Some (port_of c.args.place) = search rules in
    let read = row_read rows 0 c.index_mut.result.now (within_rows rows 0 (port_of c.args.place) there) c.index_mut.ensures.value in
    let number = number-row rows index 0 c.args.place c.self.invariant (c.self.invariant.found 0 (port_of c.args.place) there) in
    rw (← c.self.view_is) (c.replace_at.ensures.number ∙ (ap (λ (row : Option PortTable). number_in_row row c.args.place) read ∙ number))
