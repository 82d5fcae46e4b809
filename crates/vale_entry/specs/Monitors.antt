-- Monitors: who may watch whom. A port has at most one monitor; a watch ends where either port is
-- shut.
use Rattle.std.specs.Prelude.{ℕ, Bool, not, ◌&&◌, ◌==◌, List, find, Option, bytes_eq}
use Rattle.nm_types.specs.Names.{is_name, is_monitor_name}
use Rattle.vale_entry.specs.World.{Port, Watch}

-- an open port of this name
abbrev pub is_open_as : List ℕ → Port → Bool
is_open_as name port = not port.shutting && bytes_eq port.name name

abbrev pub open_port_as : List Port → List ℕ → Option Port
open_port_as ports name = find (is_open_as name) ports

abbrev pub is_watch_at : ℕ → Watch → Bool
is_watch_at target watch = watch.target == target

-- the watch of a port
abbrev pub watch_of : List Watch → ℕ → Option Watch
watch_of watches target = find (is_watch_at target) watches

-- a monitor may ask to watch under any name but a monitor's
abbrev pub can_watch : List ℕ → Port → Bool
can_watch target monitor =
    is_monitor_name monitor.name && (is_name target && not (is_monitor_name target))
