use Rattle.std.proofs.Common.{◌≡◌, ◌++◌, map, take, drop}
use Rattle.nm_port.specs.Resets.{port_reset_if}
use Rattle.nm_port.proofs.reset.reset_rings.Given as goal

abbrev pub invariant-loop-port : goal.invariant-loop-port
invariant-loop-port l = l.ports ≡ map (port_reset_if l.hold l.id.0 l.side) (take l.port-index l.fn.ports) ++ drop l.port-index l.fn.ports
