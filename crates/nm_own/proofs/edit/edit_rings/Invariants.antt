use Rattle.std.proofs.Common.{◌≡◌, ◌++◌, map, take, drop}
use Rattle.nm_own.specs.Edits.{port_edited_if}
use Rattle.nm_own.proofs.edit.edit_rings.Given as goal

abbrev pub invariant-loop-port : goal.invariant-loop-port
invariant-loop-port l = l.ports ≡ map (port_edited_if l.id.0 l.side l.edit) (take l.port-index l.fn.ports) ++ drop l.port-index l.fn.ports
