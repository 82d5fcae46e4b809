-- A watch of the port that a name finds, as it is added and recorded.
use Rattle.std.specs.Prelude.{ℕ, ◌≡◌, Option, Some, None, option_map, option_and_then, Result, Ok, Err}
use Rattle.nm_types.specs.declared.fault.StepFault.TheVariants as steps
use Rattle.nm_types.specs.declared.fault.StepFault.{StepFault}
use Rattle.nm_types.specs.declared.fault.WatchFault.{WatchFault}
use Rattle.nm_types.specs.declared.fault.WatchFault.TheVariants as faults
use Rattle.nm_types.specs.declared.id.PortId.{PortId}
use Rattle.nm_types.specs.declared.id.Sides.{Sides}
use Rattle.nm_watch.specs.declared.watches.Watch.{Watch}
use Rattle.nm_watch.specs.Watching.{Watching, watch_of, watch_after_add}
use Rattle.vale_entry.specs.declared.entry.Reply.{Reply}
use Rattle.vale_entry.specs.declared.entry.Reply.TheVariants as replies

-- the reply that an answer is recorded with: want of room or memory is not recorded
abbrev pub reply_of_watch : Result PortId WatchFault → Option Reply
reply_of_watch (Ok target) = Some (replies.Watching target)
reply_of_watch (Err faults.NoTarget) = Some replies.NoTarget
reply_of_watch (Err (faults.Watched by)) = Some (replies.Watched by)
reply_of_watch (Err (faults.RecordFull what used want)) = None
reply_of_watch (Err faults.NoMemory) = None

-- the monitor of the port that was found
abbrev pub watcher_of : Watching → Option PortId → Option PortId
watcher_of watching found = option_and_then (λ (target : PortId). option_map (λ (w : Watch). w.monitor) (watch_of watching target.0)) found

-- the port that was found has a monitor more
pub record IsWatch (watching next : Watching) (found : Option PortId) (monitor : PortId) (sides : Sides) (target : PortId) : Type 0 where
  pub found_is : found ≡ Some target
  pub free : watch_of watching target.0 ≡ None
  pub added : (port : ℕ) → watch_of next port ≡ watch_after_add watching target monitor sides port

-- why there is none; what of the record is full is said by the first argument
abbrev pub IsNoWatch : (StepFault → Type 0) → Watching → Option PortId → WatchFault → Type 0
IsNoWatch full watching found faults.NoTarget = found ≡ None
IsNoWatch full watching found (faults.Watched by) = watcher_of watching found ≡ Some by
IsNoWatch full watching found (faults.RecordFull what used want) = full (steps.RecordFull what used want)
IsNoWatch full watching found faults.NoMemory = Unit {0}
