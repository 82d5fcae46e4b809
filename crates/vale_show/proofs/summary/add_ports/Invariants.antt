use Rattle.std.proofs.Common.{◌≡◌, ◌++◌, take, flat_map}
use Rattle.vale_show.specs.Summary.{port_line}
use Rattle.vale_show.proofs.summary.add_ports.Given as goal

abbrev pub invariant-loop-port : goal.invariant-loop-port
invariant-loop-port l =
    l.page.bytes ≡ l.fn.page.bytes ++ flat_map port_line (take l.port-index l.ports)
