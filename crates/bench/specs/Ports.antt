-- Ports with one number after another.
use Rattle.std.specs.Prelude.{ℕ, List, map}
use Rattle.std.specs.List.{range_with_len}
use Rattle.nm_types.specs.declared.id.PortId.{PortId}

abbrev pub port_of : ℕ → PortId
port_of number = record { 0 = number }

-- so many ports, from 0 on
abbrev pub first_ports : ℕ → List PortId
first_ports count = map port_of (range_with_len 0 count)
