use Rattle.std.proofs.Common.{◌≡◌, ◌++◌, take, flat_map}
use Rattle.vale_show.specs.Table.{row}
use Rattle.vale_show.proofs.table.add_rows.Given as goal

abbrev pub invariant-loop-port : goal.invariant-loop-port
invariant-loop-port l =
    l.page.bytes ≡ l.fn.page.bytes ++ flat_map row (take l.port-index l.ports)
