-- Ports that share a limit: those of one switch, all pipe ends, or all monitors.
use Rattle.std.specs.Prelude.{ℕ, nat_le, if◌then◌else◌, List, length, Option, Some, None}
use Rattle.std.specs.List.{list_any}
use Rattle.nm_types.specs.declared.fault.OpenFault.{OpenFault}
use Rattle.nm_types.specs.declared.fault.OpenFault.TheVariants.{PortsFull, NameTaken}
use Rattle.vale_names.specs.declared.port.NamedPort.{NamedPort}
use Rattle.vale_names.specs.Ports.{has_name}

pub record PortGroup : Type 0 where
  pub ports : List NamedPort
  pub most : ℕ

abbrev pub group_refusal : PortGroup → List ℕ → Option OpenFault
group_refusal group name =
    if nat_le group.most (length group.ports) then Some PortsFull
    else (if list_any (has_name name) group.ports then Some NameTaken else None)
