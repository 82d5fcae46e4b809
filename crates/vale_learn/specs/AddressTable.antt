-- The learning table of a switch: 1024 entries, each of which holds the station that was learned last
-- among the addresses of that entry, or nothing.
use Rattle.std.specs.Prelude.{ℕ, ◌==◌, if◌then◌else◌, List, map, replicate, Option, Some, None, slice_index_or, slice_set, bytes_eq}
use Rattle.nm_types.specs.Limits.{buckets}
pub use Rattle.nm_types.specs.Addresses.{bucket_of}
use Rattle.nm_types.specs.declared.id.Mac.{Mac}
use Rattle.nm_types.specs.declared.id.PortId.{PortId}
use Rattle.vale_learn.specs.declared.table.Station.{Station}

abbrev pub Entries : Type 0
Entries = List (Option Station)

abbrev pub no_stations : Entries
no_stations = replicate buckets None

-- what an address's entry holds
abbrev pub entry_of : Entries → List ℕ → Option Station
entry_of entries address = slice_index_or entries (bucket_of address) None

-- the station's port, if the address is the station's
abbrev pub port_if_address : List ℕ → Option Station → Option PortId
port_if_address address None = None
port_if_address address (Some station) = if bytes_eq station.address.0 address then Some station.port else None

abbrev pub port_of_address : Entries → List ℕ → Option PortId
port_of_address entries address = port_if_address address (entry_of entries address)

-- the table once a station was seen: its entry holds it, and no longer what it held
abbrev pub learned : Entries → Mac → PortId → Entries
learned entries address port = slice_set entries (bucket_of address.0) (Some (record { address = address; port = port }))

-- the table once the entry of an address holds again what it held before
abbrev pub restored : Entries → Mac → Option Station → Entries
restored entries address station = slice_set entries (bucket_of address.0) station

-- an entry, empty if it holds a station of this port
abbrev pub without_port : PortId → Option Station → Option Station
without_port port None = None
without_port port (Some station) = if station.port.0 == port.0 then None else Some station

abbrev pub forgotten : Entries → PortId → Entries
forgotten entries port = map (without_port port) entries
