-- The ports of all places: those of the switches, the pipe ends and the monitors.
use Rattle.std.specs.Prelude.{ℕ, Bool, ◌≡◌, ◌≤◌, true, List, ◌++◌, length}
use Rattle.std.specs.List.{list_all}
use Rattle.nm_types.specs.Limits.{most_switches, most_pipe_ends, most_monitors}
use Rattle.vale_names.specs.declared.port.NamedPort.{NamedPort}
use Rattle.vale_names.specs.declared.switch.Switch.{Switch}
use Rattle.vale_names.specs.Ports.{has_pipe_name, has_monitor_name}
use Rattle.vale_names.specs.PortNames.{HaveNamesOnce}
use Rattle.vale_names.specs.Groups.{PortGroup}
use Rattle.vale_names.specs.Switches.{ports_on, ArePlaces}

abbrev pub all_ports : List Switch → PortGroup → PortGroup → List NamedPort
all_ports switches pipes monitors = ports_on switches ++ (pipes.ports ++ monitors.ports)

-- ports with names of one kind, at most so many
pub record IsGroupOf (has_kind : NamedPort → Bool) (most : ℕ) (group : PortGroup) : Type 0 where
  pub kind : list_all has_kind group.ports ≡ true
  pub most_is : group.most ≡ most
  pub few : length group.ports ≤ most

pub record AreNamed (switches : List Switch) (pipes monitors : PortGroup) : Type 0 where
  pub places : ArePlaces switches
  pub four : length switches ≡ most_switches
  pub pipe_ends : IsGroupOf has_pipe_name most_pipe_ends pipes
  pub monitor_ports : IsGroupOf has_monitor_name most_monitors monitors
  pub once : HaveNamesOnce (all_ports switches pipes monitors)
