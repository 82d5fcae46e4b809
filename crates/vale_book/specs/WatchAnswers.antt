-- What a monitor that wants to watch a port is answered, and what stands in the record after it.
use Rattle.std.specs.Prelude.{◌≡◌}
use Rattle.nm_types.specs.declared.fault.StepFault.TheVariants as steps
use Rattle.nm_types.specs.declared.fault.WatchFault.{WatchFault}
use Rattle.nm_types.specs.declared.fault.WatchFault.TheVariants as faults
use Rattle.vale_entry.specs.declared.entry.Ask.{Ask}
use Rattle.vale_entry.specs.declared.entry.Reply.TheVariants as replies
use Rattle.vale_own.specs.Recorded.{Recorded, IsRefusal, IsRecordedAs}

-- that there is no such port, or that it is watched, is an entry; want of room or memory is none
abbrev pub IsUnwatched : Recorded → Recorded → Ask → WatchFault → Type 0
IsUnwatched old new ask faults.NoTarget = IsRecordedAs old new ask replies.NoTarget
IsUnwatched old new ask (faults.Watched by) = IsRecordedAs old new ask (replies.Watched by)
IsUnwatched old new ask (faults.RecordFull what used want) = (new ≡ old) × IsRefusal old ask (steps.RecordFull what used want)
IsUnwatched old new ask faults.NoMemory = (new ≡ old) × IsRefusal old ask steps.NoMemory
