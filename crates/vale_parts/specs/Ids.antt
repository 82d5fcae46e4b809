-- Ids as the parts have them, and as the world does.
use Rattle.std.specs.Prelude.{ℕ, Option, option_map}
use Rattle.nm_types.specs.declared.id.PortId.{PortId}
pub use Rattle.nm_types.specs.Ids.{port_id}
use Rattle.vale_entry.specs.World.{Port}

abbrev pub id_of : Option PortId → Option ℕ
id_of found = option_map (λ (id : PortId). id.0) found

abbrev pub id_of_port : Port → PortId
id_of_port port = port_id port.id
