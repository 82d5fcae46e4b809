-- Which refusals stop a user at its call: a full record, and want of memory. The others are entries.
use Rattle.std.specs.Prelude.{Result, Ok, Err}
use Rattle.nm_types.specs.declared.fault.StepFault.{StepFault}
use Rattle.nm_types.specs.declared.fault.StepFault.TheVariants as steps
use Rattle.nm_types.specs.declared.fault.OpenFault.{OpenFault}
use Rattle.nm_types.specs.declared.fault.OpenFault.TheVariants as opens
use Rattle.nm_types.specs.declared.fault.WatchFault.{WatchFault}
use Rattle.nm_types.specs.declared.fault.WatchFault.TheVariants as watches

abbrev pub open_stop_of : OpenFault → Result (Unit {0}) StepFault
open_stop_of opens.BadSize = Ok tt
open_stop_of opens.SwitchesFull = Ok tt
open_stop_of opens.PortsFull = Ok tt
open_stop_of opens.NameTaken = Ok tt
open_stop_of (opens.NoBuffers want have) = Ok tt
open_stop_of (opens.RecordFull what used want) = Err (steps.RecordFull what used want)
open_stop_of opens.NoMemory = Err steps.NoMemory

abbrev pub watch_stop_of : WatchFault → Result (Unit {0}) StepFault
watch_stop_of watches.NoTarget = Ok tt
watch_stop_of (watches.Watched by) = Ok tt
watch_stop_of (watches.RecordFull what used want) = Err (steps.RecordFull what used want)
watch_stop_of watches.NoMemory = Err steps.NoMemory
