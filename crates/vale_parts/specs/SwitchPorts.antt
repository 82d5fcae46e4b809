-- The ports of a switch, and that what it has learned is of its own ports.
use Rattle.std.specs.Prelude.{ℕ, Bool, not, ◌&&◌, List, map, filter}
use Rattle.nm_types.specs.declared.id.PortId.{PortId}
use Rattle.vale_entry.specs.World.{Port}
use Rattle.vale_entry.specs.Opening.{is_on_switch}
use Rattle.vale_parts.specs.Ids.{id_of_port}

abbrev pub is_open_on : List ℕ → Port → Bool
is_open_on switch port = not port.shutting && is_on_switch switch port

-- the open ports of a switch, by rising id
abbrev pub open_ports_on : List ℕ → List Port → List PortId
open_ports_on switch ports = map id_of_port (filter (is_open_on switch) ports)
