use Rattle.std.proofs.Common.{◌≡◌, ◌+◌, ◌++◌, drop}
use Rattle.vale_told.specs.Told.{told_of}
use Rattle.vale_told.specs.Listed.{listed_from}
use Rattle.vale_told.specs.Ports.{port_opened, ports_told}
use Rattle.vale_told.proofs.opened.ports.Given as goal

abbrev pub invariant-loop-i : goal.invariant-loop-i
invariant-loop-i l =
    ports_told l.entries
    ≡ l.ports.items ++ listed_from (port_opened (told_of l.entries)) (l.i + 1) (drop l.i l.entries)
