-- Who monitors what, by the port that is watched: a port has at most one monitor, and a monitor may
-- watch many ports.
use Rattle.std.specs.Prelude.{ℕ, ◌==◌, ◌≡◌, if◌then◌else◌, List, Option, Some, None, nat_eq, option_map, option_and_then}
use Rattle.std.specs.Map.{lookup}
use Rattle.nm_types.specs.Sides.{watches_side}
use Rattle.nm_types.specs.declared.id.PortId.{PortId}
use Rattle.nm_types.specs.declared.id.Side.{Side}
use Rattle.nm_types.specs.declared.id.Sides.{Sides}
use Rattle.nm_types.specs.declared.fault.WatchFault.{WatchFault}
use Rattle.nm_types.specs.declared.fault.WatchFault.TheVariants as faults
use Rattle.nm_watch.specs.declared.watches.Watch.{Watch}

-- the watches, each with the port that is watched
abbrev pub Watching : Type 0
Watching = List (ℕ × Watch)

-- the watch of a port
abbrev pub watch_of : Watching → ℕ → Option Watch
watch_of watching target = lookup (nat_eq target) watching

abbrev pub monitor_on : Side → Watch → Option PortId
monitor_on side watch = if watches_side watch.sides side then Some watch.monitor else None

-- the monitor of a side of a port
abbrev pub monitor_of : Watching → ℕ → Side → Option PortId
monitor_of watching target side = option_and_then (monitor_on side) (watch_of watching target)

-- a port's watch after another one was added
abbrev pub watch_after_add : Watching → PortId → PortId → Sides → ℕ → Option Watch
watch_after_add watching target monitor sides port =
    if target.0 == port then Some (record { monitor = monitor; sides = sides }) else watch_of watching port

abbrev pub unless_by : PortId → Option Watch → Option Watch
unless_by monitor None = None
unless_by monitor (Some watch) = if watch.monitor.0 == monitor.0 then None else Some watch

-- a port's watch after a port was forgotten: none of it, and none by it
abbrev pub watch_after_forget : Watching → PortId → ℕ → Option Watch
watch_after_forget watching gone port = if gone.0 == port then None else unless_by gone (watch_of watching port)

-- a watch is refused if the port has a monitor, which is named; if memory runs out it has none
abbrev pub IsWatchRefusal : Watching → ℕ → WatchFault → Type 0
IsWatchRefusal watching target (faults.Watched by) = option_map (λ (w : Watch). w.monitor) (watch_of watching target) ≡ Some by
IsWatchRefusal watching target faults.NoMemory = watch_of watching target ≡ None
IsWatchRefusal watching target faults.NoTarget = ⊥
IsWatchRefusal watching target (faults.RecordFull what used want) = ⊥
