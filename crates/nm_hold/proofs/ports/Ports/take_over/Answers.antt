use Rattle.std.proofs.Common.{◌≡◌, ◌∙◌, ◌∷◌, [], nat_eq, length, reverse, List, Option, ap, arith}
use Rattle.std.specs.HashMap.{get}
use Rattle.std.proofs.lemmas.List.{reverse-append, reverse-reverse}
use Rattle.nm_hold.specs.declared.table.PortTable.{PortTable}
use Rattle.nm_hold.specs.PortLists.{PortList}
use Rattle.nm_hold.specs.Indexed.{tables_present}
use Rattle.nm_hold.proofs.Finding.{apart-indexed, once-apart, row_is_new}
use Rattle.nm_hold.proofs.ports.Ports.take_over.Goals as goal

pub loop-row-init : goal.loop-row-init
loop-row-init c =
    let rows = c.others.inside.rows.items in
    let tables : tables_present rows ≡ c.args.others.tables = ap (λ (p : PortList). p.tables) c.others.view_is in
    let none : length c.args.self.now.tables ≡ 0 = ap (λ (ts : List PortTable). length ts) c.requires.empty in
    record {
      joined = rw (c.requires.empty, c.reverse.ensures.items, reverse-reverse rows) tables;
      once = rw (← tables) (once-apart rows (apart-indexed rows (get nat_eq c.others.inside.indices) c.others.invariant));
      spare = omega (arith, none);
      room = c.requires.room;
    }

pub push_row-requires-clause-new : goal.push_row-requires-clause-new
push_row-requires-clause-new c =
    let left = c.pop.new.self.items in
    let turned : reverse c.loop-row.rows.items ≡ c.in-Some.row ∷ reverse left = ap (λ (xs : List (Option PortTable)). reverse xs) c.in-Some.ensures.items ∙ reverse-append left (c.in-Some.row ∷ []) in
    row_is_new c.loop-row.self.tables c.in-Some.row (reverse left) c.args.others.tables (rw turned at c.loop-row.invariant.joined) c.loop-row.invariant.once
