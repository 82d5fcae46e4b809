use Rattle.std.proofs.Common.{◌≡◌, nat_eq, List, map, slice_set, Option, None, sym, ◌∙◌, rules}
use Rattle.std.specs.Prelude.{option_map}
use Rattle.std.specs.HashMap.{get}
use Rattle.nm_hold.specs.declared.table.PortTable.{PortTable}
use Rattle.nm_hold.specs.Holds.{port_of}
use Rattle.nm_hold.specs.Tables.{put_in}
use Rattle.nm_hold.specs.Indexed.{row_at, tables_present, IsIndexed}
use Rattle.nm_hold.proofs.Finding.{row_read, row_is_table, put-rows, put-none, number-read, number-none}
use Rattle.nm_hold.proofs.Steps.{put_are_tables}
use Rattle.nm_hold.proofs.ports.Ports.displace.Goals as goal
use Rattle.nm_hold.proofs.ports.Ports.displace.Goals.{After-index_mut, After-displace_at}

-- the row that is found
found : (c : After-index_mut) → c.index_mut.result.now ≡ row_at c.self.inside.rows.items c.in-Some.at
found c = row_read c.self.inside.rows.items c.in-Some.at c.index_mut.result.now (rw (c.deref.ensures.value) at c.in-Some.ensures.within) c.index_mut.ensures.value

pub displace_at-requires : goal.displace_at-requires
displace_at-requires c = rw (found (goal.at.displace_at-requires c).After-index_mut) (row_is_table c.self.inside.rows.items c.in-Some.at (rw (← c.self.view_is) at c.requires))

-- the rows once both numbers are put in it
abbrev rows_after : After-displace_at → List (Option PortTable)
rows_after c = slice_set c.self.inside.rows.items c.in-Some.at (option_map (put_in c.args.other c.displace_at.result) (option_map (put_in c.args.place c.args.number) (row_at c.self.inside.rows.items c.in-Some.at)))

record Put (c : After-displace_at) : Type 0 where
  indexed : IsIndexed (rows_after c) (get nat_eq c.self.inside.indices)
  tables : map (put_in c.args.other c.displace_at.result) (map (put_in c.args.place c.args.number) (tables_present c.self.inside.rows.items)) ≡ tables_present (rows_after c)

both : (c : After-displace_at) → Put c
both c =
    let put = put-rows c.self.inside.rows.items (get nat_eq c.self.inside.indices) c.in-Some.at c.args.place c.args.other c.args.number c.displace_at.result c.self.invariant (search rules) (search rules) in
    record { indexed = put.0; tables = put.1 }

pub invariant_of-self : goal.invariant_of-self
invariant_of-self c = let to = goal.at.invariant_of-self c in rw (c.displace_at.ensures.row, found to.After-index_mut) (both to.After-displace_at).indexed

pub returns-in-Some-clause-tables : goal.returns-in-Some-clause-tables
returns-in-Some-clause-tables c = let to = goal.at.returns-in-Some-clause-tables c in rw (← c.self.view_is, c.displace_at.ensures.row, found to.After-index_mut) (sym (both to.After-displace_at).tables)

pub returns-in-Some-clause-number : goal.returns-in-Some-clause-number
returns-in-Some-clause-number c =
    let read = found (goal.at.returns-in-Some-clause-number c).After-index_mut in
    rw (← c.self.view_is) (c.displace_at.ensures.number ∙ number-read c.self.inside.rows.items (get nat_eq c.self.inside.indices) c.in-Some.at c.args.place _ c.self.invariant (search rules) read)

pub returns-in-None-clause-tables : goal.returns-in-None-clause-tables
returns-in-None-clause-tables c =
    let rows = c.self.inside.rows.items in
    let none : get nat_eq c.self.inside.indices (port_of c.args.place) ≡ None = search rules in
    let same : port_of c.args.place ≡ port_of c.args.other = search rules in
    rw (← c.self.view_is) (sym (put-none rows (get nat_eq c.self.inside.indices) c.args.place c.args.other c.args.number 0 c.self.invariant none same))

pub returns-in-None-clause-number : goal.returns-in-None-clause-number
returns-in-None-clause-number c = rw (← c.self.view_is) (sym (number-none c.self.inside.rows.items (get nat_eq c.self.inside.indices) c.args.place c.self.invariant (search rules)))

pub replace-requires : goal.replace-requires
replace-requires c = rw c.replace-was.ensures.tables (put_are_tables c.args.place c.args.number c.args.self.now.tables c.requires)
