-- Ids by their numbers.
use Rattle.std.specs.Prelude.{ℕ}
use Rattle.nm_types.specs.declared.id.LeaseId.{LeaseId}
use Rattle.nm_types.specs.declared.id.PortId.{PortId}

abbrev pub port_id : ℕ → PortId
port_id number = record { 0 = number }

abbrev pub lease_id : ℕ → LeaseId
lease_id number = record { 0 = number }
