-- Laws of who monitors what.
use Rattle.std.specs.Prelude.{ℕ, ◌≡◌, List, [], ◌∷◌, ◌++◌, option_map}
use Rattle.nm_watch.specs.declared.watches.Watch.{Watch}
use Rattle.nm_watch.specs.Watching.{Watching, watch_of}
use Rattle.vale_entry.specs.declared.entry.Entry.{Entry}
use Rattle.vale_entry.specs.World.{Watch as Watcher}
use Rattle.vale_entry.specs.Monitors.{watch_of as watcher_of}
use Rattle.vale_entry.specs.Legal.{standing_of, world_of, IsLegal, Follows}
use Rattle.vale_parts.specs.WorldWatches.{WatchesAre, AreWatchesAfter}

abbrev pub WatchesFollow : Type 0
WatchesFollow = (pool : ℕ) (history : List Entry) (entry : Entry) (watching next : Watching) → IsLegal pool history → Follows (standing_of pool history) entry
    → WatchesAre (world_of pool history) watching → AreWatchesAfter entry.ask entry.reply watching next → WatchesAre (world_of pool (history ++ entry ∷ [])) next

-- a port is watched exactly where the world says so, and by the same monitor
abbrev pub WatchedAreWatched : Type 0
WatchedAreWatched = (pool : ℕ) (history : List Entry) (watching : Watching) (port : ℕ) → IsLegal pool history → WatchesAre (world_of pool history) watching
    → option_map (λ (watch : Watch). watch.monitor.0) (watch_of watching port) ≡ option_map (λ (watch : Watcher). watch.monitor) (watcher_of (world_of pool history).watches port)
