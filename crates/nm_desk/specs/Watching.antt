-- When a desk's monitor may watch a port, and what a refusal does.
use Rattle.std.specs.Prelude.{ℕ, true, false, ◌≡◌, ◌||◌, List}
use Rattle.std.specs.Option.{option_map_or}
use Rattle.nm_types.specs.declared.fault.StepFault.TheVariants as steps
use Rattle.nm_types.specs.declared.fault.WatchFault.{WatchFault}
use Rattle.nm_types.specs.declared.fault.WatchFault.TheVariants.{NoTarget, Watched, RecordFull, NoMemory}
use Rattle.nm_types.specs.Names.{is_switch_port_name, is_pipe_name, is_monitor_name}
use Rattle.nm_types.specs.OwnPorts.{OwnPort, OwnState, port_with_id}
use Rattle.vale_entry.specs.declared.entry.Ask.{Ask}
use Rattle.vale_entry.specs.declared.entry.Reply.TheVariants as replies
use Rattle.vale_own.specs.Recorded.{Recorded}
use Rattle.nm_desk.specs.Desks.{DeskState}
use Rattle.nm_desk.specs.Calls.{Made, MadeNone}

-- the port is one of the desk's, and a monitor
abbrev pub IsMonitorOn : OwnState → ℕ → Type 0
IsMonitorOn own id = option_map_or (λ (p : OwnPort). is_monitor_name p.name) (port_with_id own id) false ≡ true

-- the name is a switch port's or a pipe end's
abbrev pub IsWatchable : List ℕ → Type 0
IsWatchable name = (is_switch_port_name name || is_pipe_name name) ≡ true

-- that no open port has the name, or that it has a monitor, is an entry; want of room or memory is none
abbrev pub WatchesNot : Recorded → Recorded → DeskState → DeskState → Ask → WatchFault → Type 0
WatchesNot b new d after ask NoTarget = Made b new d after ask replies.NoTarget
WatchesNot b new d after ask (Watched by) = Made b new d after ask (replies.Watched by)
WatchesNot b new d after ask (RecordFull what used want) = MadeNone b new d after ask (steps.RecordFull what used want)
WatchesNot b new d after ask NoMemory = MadeNone b new d after ask steps.NoMemory
