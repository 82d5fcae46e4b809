use Rattle.std.proofs.Common.{◌≡◌, ◌++◌, map, take, drop}
use Rattle.nm_types.specs.declared.id.PortId.{PortId}
use Rattle.nm_types.specs.declared.id.Side.TheVariants.{Tx}
use Rattle.nm_port.specs.Own.{port_changed_if}
use Rattle.nm_port.specs.Puts.{ring_taken}
use Rattle.nm_port.proofs.take.take_at.Given as goal

abbrev pub invariant-loop-port : goal.invariant-loop-port
invariant-loop-port l = l.ports ≡ map (port_changed_if l.id.0 Tx (λ (of : PortId). ring_taken l.hold l.id l.taken)) (take l.port-index l.fn.ports) ++ drop l.port-index l.fn.ports
