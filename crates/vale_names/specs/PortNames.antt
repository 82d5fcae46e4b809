-- What holds of the ports that are there together, open or shutting.
use Rattle.std.specs.Prelude.{ℕ, ◌≤◌, List, length, count_by}
use Rattle.nm_types.specs.Limits.{most_switches, most_ports}
use Rattle.nm_types.specs.Openings.{is_beside, most_beside, switches_of}
use Rattle.vale_names.specs.declared.port.NamedPort.{NamedPort}
use Rattle.vale_names.specs.Ports.{names_of, has_name}

-- no two ports have one name
abbrev pub HaveNamesOnce : List NamedPort → Type 0
HaveNamesOnce ports = (name : List ℕ) → count_by (has_name name) ports ≤ 1

-- beside a name there are at most 254 ports of its switch, 32 pipe ends, or 32 monitors
pub record IsNames (ports : List NamedPort) : Type 0 where
  pub once : HaveNamesOnce ports
  pub beside : (name : List ℕ) → count_by (is_beside name) (names_of ports) ≤ most_beside name
  pub switches : length (switches_of (names_of ports)) ≤ most_switches
  pub few : length ports ≤ most_ports
