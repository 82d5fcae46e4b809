use Rattle.std.proofs.Common.{◌≡◌, nat_eq, Some, None, sym, ◌∙◌, arith, rules}
use Rattle.std.specs.HashMap.{get}
use Rattle.nm_hold.specs.Indexed.{port_at}
use Rattle.nm_hold.proofs.Finding.{row_read, within_rows, apart-indexed, once-apart, find-row, find-none, no_index}
use Rattle.nm_hold.proofs.ports.Ports.table.Goals as goal

pub index-requires : goal.index-requires
index-requires c =
    let there : port_at c.self.inside.rows.items 0 ≡ Some c.args.port.0 = rw (← c.deref.ensures.value) (c.is_first.ensures c.if-is_first.true) in
    let within = within_rows c.self.inside.rows.items 0 c.args.port.0 there in
    omega (arith, within)

pub index-requires-in-Some : goal.index-requires-in-Some
index-requires-in-Some c =
    let index : get nat_eq c.self.inside.indices c.args.port.0 ≡ Some c.in-Some.at = search rules in
    let within = within_rows c.self.inside.rows.items c.in-Some.at c.args.port.0 (c.self.invariant.there c.in-Some.at c.args.port.0 index) in
    omega (arith, within)

pub returns-then-is_first : goal.returns-then-is_first
returns-then-is_first c =
    let rows = c.self.inside.rows.items in
    let port = c.args.port.0 in
    let there : port_at rows 0 ≡ Some port = rw (← c.deref.ensures.value) (c.is_first.ensures c.if-is_first.true) in
    let apart = apart-indexed rows (get nat_eq c.self.inside.indices) c.self.invariant in
    let read = row_read rows 0 c.index.result.now (within_rows rows 0 port there) c.index.ensures in
    rw (← c.self.view_is) (record { table = c.as_ref.ensures.value ∙ (read ∙ sym (find-row rows 0 port apart there)); once = once-apart rows apart })

pub returns-in-Some : goal.returns-in-Some
returns-in-Some c =
    let rows = c.self.inside.rows.items in
    let at = c.in-Some.at in
    let port = c.args.port.0 in
    let index : get nat_eq c.self.inside.indices port ≡ Some at = search rules in
    let there : port_at rows at ≡ Some port = c.self.invariant.there at port index in
    let apart = apart-indexed rows (get nat_eq c.self.inside.indices) c.self.invariant in
    let read = row_read rows at c.index-in-Some.result.now (within_rows rows at port there) c.index-in-Some.ensures in
    rw (← c.self.view_is) (record { table = c.as_ref-in-Some.ensures.value ∙ (read ∙ sym (find-row rows at port apart there)); once = once-apart rows apart })

pub returns-in-None : goal.returns-in-None
returns-in-None c =
    let rows = c.self.inside.rows.items in
    let index : get nat_eq c.self.inside.indices c.args.port.0 ≡ None = search rules in
    let apart = apart-indexed rows (get nat_eq c.self.inside.indices) c.self.invariant in
    let none = no_index rows (get nat_eq c.self.inside.indices) c.args.port.0 c.self.invariant index in
    rw (← c.self.view_is) (record { table = sym (find-none rows c.args.port.0 none); once = once-apart rows apart })
