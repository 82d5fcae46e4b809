use Rattle.std.proofs.Common.{◌≡◌, ◌++◌, map, take, drop}
use Rattle.nm_types.specs.declared.id.PortId.{PortId}
use Rattle.nm_types.specs.declared.id.Side.TheVariants.{Rx}
use Rattle.nm_port.specs.Own.{port_changed_if}
use Rattle.nm_port.specs.Receives.{ring_given_back}
use Rattle.nm_port.proofs.receive.accept_backs.Given as goal

abbrev pub invariant-loop-port : goal.invariant-loop-port
invariant-loop-port l = l.ports ≡ map (port_changed_if l.id.0 Rx (λ (of : PortId). ring_given_back)) (take l.port-index l.fn.ports) ++ drop l.port-index l.fn.ports
