use Rattle.std.proofs.Common.{ℕ, ◌≡◌, ◌<◌, nat_eq, List, length, Option, Some, None, sym}
use Rattle.std.specs.Prelude.{IfSome}
use Rattle.std.specs.HashMap.{get}
use Rattle.nm_hold.specs.declared.table.PortTable.{PortTable}
use Rattle.nm_hold.specs.Indexed.{IsIndexed}
use Rattle.nm_hold.proofs.Finding.{within_rows, row_within}
use Rattle.nm_hold.proofs.ports.row_of.Goals as goal

pub returns-then-is_first-clause-row : goal.returns-then-is_first-clause-row
returns-then-is_first-clause-row c = sym (c.requires.found 0 c.args.port.0 (c.is_first.ensures c.if-is_first.true))

pub returns-then-is_first-clause-within : goal.returns-then-is_first-clause-within
returns-then-is_first-clause-within c = within_rows c.args.rows.now 0 c.args.port.0 (c.is_first.ensures c.if-is_first.true)

-- a row that is found is one of the rows
found_within : (rows : List (Option PortTable)) (index : ℕ → Option ℕ) (port : ℕ) (found : Option ℕ) → IsIndexed rows index → found ≡ index port → IfSome found (λ at. at < length rows)
found_within rows index port None is e = tt
found_within rows index port (Some at) is e = row_within rows index at port is (sym e)

pub returns-clause-within : goal.returns-clause-within
returns-clause-within c = found_within c.args.rows.now (get nat_eq c.args.indices.now) c.args.port.0 c.row_in.result c.requires c.row_in.ensures
