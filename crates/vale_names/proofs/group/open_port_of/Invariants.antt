use Rattle.std.proofs.Common.{◌≡◌}
use Rattle.std.specs.Prelude.{find}
use Rattle.vale_names.specs.Ports.{is_open_as}
use Rattle.vale_names.proofs.GroupLemmas.{held, ports_of}
use Rattle.vale_names.proofs.group.open_port_of.Given as goal

abbrev pub invariant-loop-port : goal.invariant-loop-port
invariant-loop-port l =
    (goal.iterator-loop-port).can_next l.port-iterator ×
    (goal.iterator-loop-port).is_finite l.port-iterator ×
    (find (is_open_as l.name) (ports_of l.port-iterator) ≡ find (is_open_as l.name) (held l.ports.slots))
