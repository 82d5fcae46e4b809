-- Why a port of a name is not opened, by the names of the ports that are there, open or shutting: the
-- first of these refusals that holds.
use Rattle.std.specs.Prelude.{ℕ, Bool, not, ◌&&◌, ◌==◌, nat_le, if◌then◌else◌, List, [], ◌∷◌, length, count_by, Option, Some, None, bytes_eq}
use Rattle.std.specs.List.{list_any}
use Rattle.nm_types.specs.Limits.{least_ring, most_ring, most_extra, most_switches, most_switch_ports, most_pipe_ends, most_monitors}
use Rattle.nm_types.specs.Names.{switch_of, is_switch_port_name, is_pipe_name, is_monitor_name}
use Rattle.nm_types.specs.declared.fault.OpenFault.{OpenFault}
use Rattle.nm_types.specs.declared.fault.OpenFault.TheVariants.{BadSize, SwitchesFull, PortsFull, NameTaken}

abbrev pub is_ring_size : ℕ → Bool
is_ring_size slots = nat_le least_ring slots && nat_le slots most_ring

-- a monitor has no transmit ring
abbrev pub are_sizes : List ℕ → ℕ → ℕ → ℕ → Bool
are_sizes name tx rx extra =
    (if is_monitor_name name then tx == 0 else is_ring_size tx) && (is_ring_size rx && nat_le extra most_extra)

-- a port of this switch
abbrev pub is_on_switch : List ℕ → List ℕ → Bool
is_on_switch switch name = is_switch_port_name name && bytes_eq (switch_of name) switch

-- the names that a new name counts with: those on its switch, all pipe ends, or all monitors
abbrev pub is_beside : List ℕ → List ℕ → Bool
is_beside name other =
    if is_switch_port_name name then is_on_switch (switch_of name) other
    else (if is_pipe_name name then is_pipe_name other else is_monitor_name other)

abbrev pub most_beside : List ℕ → ℕ
most_beside name =
    if is_switch_port_name name then most_switch_ports
    else (if is_pipe_name name then most_pipe_ends else most_monitors)

-- one name on each switch that has ports
abbrev pub switches_of : List (List ℕ) → List (List ℕ)
switches_of [] = []
switches_of (name ∷ names) =
    if is_switch_port_name name && not (list_any (is_on_switch (switch_of name)) names) then name ∷ switches_of names
    else switches_of names

-- the name is on a switch that has no port, while as many switches as there may be have one
abbrev pub finds_switches_full : List (List ℕ) → List ℕ → Bool
finds_switches_full names name =
    is_switch_port_name name && (not (list_any (is_on_switch (switch_of name)) names) && nat_le most_switches (length (switches_of names)))

abbrev pub finds_ports_full : List (List ℕ) → List ℕ → Bool
finds_ports_full names name = nat_le (most_beside name) (count_by (is_beside name) names)

abbrev pub is_same_name : List ℕ → List ℕ → Bool
is_same_name name other = bytes_eq other name

abbrev pub finds_name_taken : List (List ℕ) → List ℕ → Bool
finds_name_taken names name = list_any (is_same_name name) names

abbrev pub name_refusal : List (List ℕ) → List ℕ → Option OpenFault
name_refusal names name =
    if finds_switches_full names name then Some SwitchesFull
    else (if finds_ports_full names name then Some PortsFull
    else (if finds_name_taken names name then Some NameTaken
    else None))

abbrev pub open_refusal : List (List ℕ) → List ℕ → ℕ → ℕ → ℕ → Option OpenFault
open_refusal names name tx rx extra = if not (are_sizes name tx rx extra) then Some BadSize else name_refusal names name
