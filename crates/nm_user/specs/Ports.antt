-- When a session may ask for a port to be opened or watched, and what a refusal does.
use Rattle.std.specs.Prelude.{ℕ, true, false, ◌≡◌, ◌||◌, List}
use Rattle.std.specs.Option.{option_map_or}
use Rattle.nm_types.specs.declared.fault.StepFault.TheVariants as steps
use Rattle.nm_types.specs.declared.fault.OpenFault.{OpenFault}
use Rattle.nm_types.specs.declared.fault.WatchFault.{WatchFault}
use Rattle.nm_types.specs.declared.fault.WatchFault.TheVariants.{NoTarget, Watched, RecordFull, NoMemory}
use Rattle.nm_types.specs.Names.{is_switch_port_name, is_pipe_name, is_monitor_name}
use Rattle.nm_types.specs.OwnPorts.{OwnPort, OwnState, port_with_id}
use Rattle.vale_entry.specs.declared.entry.Ask.{Ask}
use Rattle.vale_entry.specs.declared.entry.Reply.TheVariants as replies
use Rattle.vale_book.specs.OpenAnswers.{ByFault}
use Rattle.nm_user.specs.Sessions.{SessionState}
use Rattle.nm_user.specs.Calls.{Made, MadeNone}

-- the port is one of the session's, and a monitor
abbrev pub IsMonitorOn : OwnState → ℕ → Type 0
IsMonitorOn own id = option_map_or (λ (p : OwnPort). is_monitor_name p.name) (port_with_id own id) false ≡ true

-- the name is a switch port's or a pipe end's
abbrev pub IsWatchable : List ℕ → Type 0
IsWatchable name = (is_switch_port_name name || is_pipe_name name) ≡ true

-- that no open port has the name, or that it has a monitor, is an entry; want of room or memory is none
abbrev pub WatchesNot : SessionState → SessionState → Ask → WatchFault → Type 0
WatchesNot s t ask NoTarget = Made s t ask replies.NoTarget
WatchesNot s t ask (Watched by) = Made s t ask (replies.Watched by)
WatchesNot s t ask (RecordFull what used want) = MadeNone s t ask (steps.RecordFull what used want)
WatchesNot s t ask NoMemory = MadeNone s t ask steps.NoMemory

-- a refusal by the name, the sizes or the free buffers is an entry; want of room or memory is none
abbrev pub OpensNot : SessionState → SessionState → Ask → OpenFault → Type 0
OpensNot s t ask fault = ByFault (λ named. Made s t ask (replies.Refused named)) (MadeNone s t ask) fault
