use Rattle.std.proofs.Common.{◌≡◌, drop}
use Rattle.vale_told.specs.Tallies.{sum_of_tallies}
use Rattle.vale_told.specs.Ports.{total_of}
use Rattle.vale_told.proofs.opened.total.Given as goal

abbrev pub invariant-loop-port : goal.invariant-loop-port
invariant-loop-port l =
    total_of l.ports ≡ sum_of_tallies l.total (total_of (drop l.port-index l.ports))
