-- Every side of every port has the monitor that the world says.
use Rattle.std.specs.Prelude.{ℕ, ◌≡◌}
use Rattle.nm_types.specs.declared.id.Side.TheVariants.{Tx, Rx}
use Rattle.nm_watch.specs.Watching.{Watching, monitor_of, watch_of, watch_after_add, watch_after_forget}
use Rattle.vale_entry.specs.declared.entry.Ask.{Ask}
use Rattle.vale_entry.specs.declared.entry.Ask.TheVariants.{Watch, Shut}
use Rattle.vale_entry.specs.declared.entry.Reply.{Reply}
use Rattle.vale_entry.specs.declared.entry.Reply.TheVariants as replies
use Rattle.vale_entry.specs.World.{World, transmit_monitor, receive_monitor}
use Rattle.vale_parts.specs.Ids.{id_of}

pub record WatchesAre (w : World) (watching : Watching) : Type 0 where
  pub transmit : (port : ℕ) → id_of (monitor_of watching port Tx) ≡ transmit_monitor w port
  pub receive : (port : ℕ) → id_of (monitor_of watching port Rx) ≡ receive_monitor w port

-- what an entry makes of the watches
abbrev pub AreWatchesAfter : Ask → Reply → Watching → Watching → Type 0
AreWatchesAfter (Watch monitor name sides) (replies.Watching target) watching next = (port : ℕ) → watch_of next port ≡ watch_after_add watching target monitor sides port
AreWatchesAfter (Shut gone) reply watching next = (port : ℕ) → watch_of next port ≡ watch_after_forget watching gone port
AreWatchesAfter _ _ watching next = (port : ℕ) → watch_of next port ≡ watch_of watching port
