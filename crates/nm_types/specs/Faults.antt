-- The refusal of a step, as a refused sync, opening or watch names it.
use Rattle.nm_types.specs.declared.fault.StepFault.{StepFault}
use Rattle.nm_types.specs.declared.fault.StepFault.TheVariants as step
use Rattle.nm_types.specs.declared.fault.SyncFault.{SyncFault}
use Rattle.nm_types.specs.declared.fault.SyncFault.TheVariants as sync
use Rattle.nm_types.specs.declared.fault.OpenFault.{OpenFault}
use Rattle.nm_types.specs.declared.fault.OpenFault.TheVariants as opening
use Rattle.nm_types.specs.declared.fault.WatchFault.{WatchFault}
use Rattle.nm_types.specs.declared.fault.WatchFault.TheVariants as watch

abbrev pub sync_fault_of : StepFault → SyncFault
sync_fault_of (step.RecordFull what used want) = sync.RecordFull what used want
sync_fault_of step.NoMemory = sync.NoMemory

abbrev pub open_fault_of : StepFault → OpenFault
open_fault_of (step.RecordFull what used want) = opening.RecordFull what used want
open_fault_of step.NoMemory = opening.NoMemory

abbrev pub watch_fault_of : StepFault → WatchFault
watch_fault_of (step.RecordFull what used want) = watch.RecordFull what used want
watch_fault_of step.NoMemory = watch.NoMemory
