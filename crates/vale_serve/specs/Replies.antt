-- The destinations that a reply tells, and what a watch is answered.
use Rattle.std.specs.Prelude.{◌-◌, List, [], length, slice_get, Result, Ok, Err}
use Rattle.std.specs.Option.{option_map_or}
use Rattle.vale_entry.specs.declared.entry.Dest.{Dest}
use Rattle.vale_entry.specs.declared.entry.Entry.{Entry}
use Rattle.vale_entry.specs.declared.entry.Reply.{Reply}
use Rattle.vale_entry.specs.declared.entry.Reply.TheVariants as replies
pub use Rattle.vale_entry.specs.Offers.{dests_in}
use Rattle.nm_types.specs.declared.fault.StepFault.TheVariants as steps
use Rattle.nm_types.specs.declared.fault.StepFault.{StepFault}
use Rattle.nm_types.specs.declared.fault.WatchFault.TheVariants as watches
use Rattle.nm_types.specs.declared.fault.WatchFault.{WatchFault}
use Rattle.nm_types.specs.declared.id.PortId.{PortId}

abbrev pub dests_of_entry : Entry → List Dest
dests_of_entry entry = dests_in entry.reply

-- those that the last entry tells
abbrev pub last_dests : List Entry → List Dest
last_dests entries = option_map_or dests_of_entry (slice_get entries (length entries - 1)) []

-- that there is no such port, or that it is watched, is answered so, and a fault of the record is an error
abbrev pub watch_answer : Result PortId WatchFault → Result Reply StepFault
watch_answer (Ok target) = Ok (replies.Watching target)
watch_answer (Err watches.NoTarget) = Ok replies.NoTarget
watch_answer (Err (watches.Watched by)) = Ok (replies.Watched by)
watch_answer (Err (watches.RecordFull what used want)) = Err (steps.RecordFull what used want)
watch_answer (Err watches.NoMemory) = Err steps.NoMemory
