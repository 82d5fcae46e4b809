use Rattle.std.proofs.Common.{◌≡◌, ◌≤◌, take, length}
use Rattle.std.specs.Vec.{vec_len, vec_capacity}
use Rattle.nm_types.specs.Names.{switch_of}
use Rattle.vale_port.specs.Ports.{open_ids}
use Rattle.vale_port.proofs.ports.ids_on.Given as goal

abbrev pub invariant-loop-port : goal.invariant-loop-port
invariant-loop-port l = record {
  found : l.ids.items ≡ open_ids (switch_of l.name) (take l.port-index l.ports);
  count : vec_len l.ids ≤ l.port-index;
  room : length l.ports ≤ vec_capacity l.ids;
}
