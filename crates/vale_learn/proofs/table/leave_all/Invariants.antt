use Rattle.std.proofs.Common.{◌≡◌, ◌++◌, map, take, drop}
use Rattle.vale_learn.specs.AddressTable.{without_port}
use Rattle.vale_learn.proofs.table.leave_all.Given as goal

abbrev pub invariant-loop-entry : goal.invariant-loop-entry
invariant-loop-entry l = l.entries ≡ map (without_port l.port) (take l.entry-index l.fn.entries) ++ drop l.entry-index l.fn.entries
