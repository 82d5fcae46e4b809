-- The ports that are there, with their names; their order says nothing.
use Rattle.std.specs.Prelude.{ℕ, Bool, true, false, not, ◌&&◌, ◌==◌, ◌≡◌, if◌then◌else◌, List, ◌∷◌, ◌++◌, map, filter, find, Option, option_map, bytes_eq}
use Rattle.nm_types.specs.Names.{is_pipe_name, is_monitor_name}
use Rattle.nm_types.specs.declared.id.PortId.{PortId}
use Rattle.vale_names.specs.declared.port.NamedPort.{NamedPort}

abbrev pub names_of : List NamedPort → List (List ℕ)
names_of ports = map (λ (port : NamedPort). port.name) ports

abbrev pub has_name : List ℕ → NamedPort → Bool
has_name name port = bytes_eq port.name name

abbrev pub has_id : ℕ → NamedPort → Bool
has_id id port = port.id.0 == id

abbrev pub is_open_as : List ℕ → NamedPort → Bool
is_open_as name port = has_name name port && not port.shutting

-- the open port of this name
abbrev pub open_port_of : List NamedPort → List ℕ → Option PortId
open_port_of ports name = option_map (λ (p : NamedPort). p.id) (find (is_open_as name) ports)

abbrev pub has_pipe_name : NamedPort → Bool
has_pipe_name port = is_pipe_name port.name

abbrev pub has_monitor_name : NamedPort → Bool
has_monitor_name port = is_monitor_name port.name

abbrev pub fresh_port : List ℕ → PortId → NamedPort
fresh_port name id = record { name = name; id = id; shutting = false }

-- the ports with one more among them
pub record Joins (old : List NamedPort) (port : NamedPort) (new : List NamedPort) : Type 0 where
  pub before : List NamedPort
  pub after : List NamedPort
  pub was : old ≡ before ++ after
  pub is : new ≡ before ++ port ∷ after

abbrev pub shut_at : ℕ → NamedPort → NamedPort
shut_at id port = if has_id id port then record port { shutting = true } else port

abbrev pub shut_in : ℕ → List NamedPort → List NamedPort
shut_in id ports = map (shut_at id) ports

abbrev pub ports_without : ℕ → List NamedPort → List NamedPort
ports_without id ports = filter (λ port. not (has_id id port)) ports
