use Rattle.std.proofs.Common.{◌≡◌}
use Rattle.std.specs.List.{list_any}
use Rattle.vale_names.specs.Ports.{has_name}
use Rattle.vale_names.proofs.GroupLemmas.{held, ports_of}
use Rattle.vale_names.proofs.group.is_taken.Given as goal

abbrev pub invariant-loop-port : goal.invariant-loop-port
invariant-loop-port l =
    (goal.iterator-loop-port).can_next l.port-iterator ×
    (goal.iterator-loop-port).is_finite l.port-iterator ×
    (list_any (has_name l.name) (ports_of l.port-iterator) ≡ list_any (has_name l.name) (held l.ports.slots))
