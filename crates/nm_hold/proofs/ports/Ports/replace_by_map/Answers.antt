use Rattle.std.proofs.Common.{◌≡◌, nat_eq, Some, None, refl, sym, ◌∙◌, arith, rules}
use Rattle.std.specs.HashMap.{get}
use Rattle.nm_hold.specs.Holds.{port_of}
use Rattle.nm_hold.specs.Indexed.{row_at}
use Rattle.nm_hold.proofs.Finding.{row_read, row_is_table, row_within, apart-indexed, no_index, put-absent, put-row, indexed-put, number-read, number-none}
use Rattle.nm_hold.proofs.ports.Ports.replace_by_map.Goals as goal
use Rattle.nm_hold.proofs.ports.Ports.replace_by_map.Goals.{After-index_mut}

-- the row that the map finds
row : (c : After-index_mut) → c.index_mut.result.now ≡ row_at c.self.inside.rows.items c.in-Some.at
row c = row_read c.self.inside.rows.items c.in-Some.at c.index_mut.result.now (row_within c.self.inside.rows.items (get nat_eq c.self.inside.indices) c.in-Some.at (port_of c.args.place) c.self.invariant (search rules)) c.index_mut.ensures.value

pub index_mut-requires : goal.index_mut-requires
index_mut-requires c =
    let within = row_within c.self.inside.rows.items (get nat_eq c.self.inside.indices) c.in-Some.at (port_of c.args.place) c.self.invariant (search rules) in
    omega (arith, within)

pub replace_at-requires : goal.replace_at-requires
replace_at-requires c = rw (row (goal.at.replace_at-requires c).After-index_mut) (row_is_table c.self.inside.rows.items c.in-Some.at (rw (← c.self.view_is) at c.requires))

pub invariant_of-self : goal.invariant_of-self
invariant_of-self c =
    let rows = c.self.inside.rows.items in
    let at = c.in-Some.at in
    let read = row (goal.at.invariant_of-self c).After-index_mut in
    rw (c.replace_at.ensures.row, read) (indexed-put rows (get nat_eq c.self.inside.indices) at c.args.place c.args.number c.self.invariant)

pub returns-in-Some-clause-tables : goal.returns-in-Some-clause-tables
returns-in-Some-clause-tables c =
    let rows = c.self.inside.rows.items in
    let at = c.in-Some.at in
    let index : get nat_eq c.self.inside.indices (port_of c.args.place) ≡ Some at = search rules in
    let there = c.self.invariant.there at (port_of c.args.place) index in
    let read = row (goal.at.returns-in-Some-clause-tables c).After-index_mut in
    let put = put-row rows at c.args.place c.args.number (apart-indexed rows (get nat_eq c.self.inside.indices) c.self.invariant) there in
    rw (← c.self.view_is, put, c.replace_at.ensures.row, read) refl

pub returns-in-None-clause-tables : goal.returns-in-None-clause-tables
returns-in-None-clause-tables c =
    let rows = c.self.inside.rows.items in
    let none : get nat_eq c.self.inside.indices (port_of c.args.place) ≡ None = search rules in
    let absent = put-absent rows c.args.place c.args.number (no_index rows (get nat_eq c.self.inside.indices) (port_of c.args.place) c.self.invariant none) in
    rw (← c.self.view_is, absent) refl

pub returns-in-Some-clause-number : goal.returns-in-Some-clause-number
returns-in-Some-clause-number c =
    let read = row (goal.at.returns-in-Some-clause-number c).After-index_mut in
    rw (← c.self.view_is) (c.replace_at.ensures.number ∙ number-read c.self.inside.rows.items (get nat_eq c.self.inside.indices) c.in-Some.at c.args.place _ c.self.invariant (search rules) read)

pub returns-in-None-clause-number : goal.returns-in-None-clause-number
returns-in-None-clause-number c = rw (← c.self.view_is) (sym (number-none c.self.inside.rows.items (get nat_eq c.self.inside.indices) c.args.place c.self.invariant (search rules)))
