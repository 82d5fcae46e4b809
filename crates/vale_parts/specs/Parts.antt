-- The parts of a switch all together, and what stands after a history.
use Rattle.std.specs.Prelude.{Bool, ◌≡◌, ◌+◌, true, false, List}
use Rattle.nm_pool.specs.Free.{PoolState}
use Rattle.nm_watch.specs.Watching.{Watching}
use Rattle.nm_count.specs.declared.tally.Tallied.{Tallied}
use Rattle.vale_names.specs.declared.port.NamedPort.{NamedPort}
use Rattle.vale_entry.specs.declared.entry.Ask.{Ask}
use Rattle.vale_entry.specs.declared.entry.Ask.TheVariants.{Send, Shut}
use Rattle.vale_entry.specs.declared.entry.Reply.{Reply}
use Rattle.vale_entry.specs.World.{World}
use Rattle.vale_entry.specs.Holdings.{Holdings}
use Rattle.vale_parts.specs.WorldNames.{NamesAre, AreNamesAfter}
use Rattle.vale_parts.specs.SwitchTables.{SwitchTable, TablesAre, WantsTable, tables_after}
use Rattle.vale_parts.specs.WorldWatches.{WatchesAre, AreWatchesAfter}
use Rattle.vale_parts.specs.WorldCounts.{CountsAre, tally_after}
use Rattle.vale_parts.specs.FreeBuffers.{FreeAre, IsPoolAfter}

pub record Parts : Type 0 where
  pub names : List NamedPort
  pub tables : List SwitchTable
  pub watches : Watching
  pub tally : List Tallied
  pub free : PoolState

-- each part is what the world or the holdings say
pub record PartsAre (w : World) (x : Holdings) (parts : Parts) : Type 0 where
  pub names_are : NamesAre w parts.names
  pub tables_are : TablesAre w parts.tables
  pub watches_are : WatchesAre w parts.watches
  pub counts_are : CountsAre w parts.tally
  pub free_are : FreeAre x parts.free
  pub pool_is : parts.free.buffers ≡ w.pool

-- what an entry makes of each
pub record ArePartsAfter (w : World) (x : Holdings) (ask : Ask) (reply : Reply) (parts next : Parts) : Type 0 where
  pub names_next : AreNamesAfter (w.entry_count + 1) ask reply parts.names next.names
  pub tables_wanted : WantsTable ask reply parts.tables
  pub tables_next : next.tables ≡ tables_after w ask parts.tables
  pub watches_next : AreWatchesAfter ask reply parts.watches next.watches
  pub tally_next : next.tally ≡ tally_after w ask reply parts.tally
  pub free_next : IsPoolAfter x ask reply parts.free next.free

-- an ask that changes tables
abbrev pub changes_tables : Ask → Bool
changes_tables (Send from frames) = true
changes_tables (Shut port) = true
changes_tables _ = false
