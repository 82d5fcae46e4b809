use Rattle.std.proofs.Common.{◌≡◌, ◌++◌, map, take, drop}
use Rattle.nm_own.specs.ExtraChain.{port_headed_if}
use Rattle.nm_own.proofs.extras.set_heads.Given as goal

abbrev pub invariant-loop-port : goal.invariant-loop-port
invariant-loop-port l = l.ports ≡ map (port_headed_if l.id.0 l.idx) (take l.port-index l.fn.ports) ++ drop l.port-index l.fn.ports
