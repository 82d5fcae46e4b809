-- Laws of the learning tables of the switches.
use Rattle.std.specs.Prelude.{ℕ, ◌≡◌, true, false, List, [], ◌∷◌, ◌++◌, length, Some}
use Rattle.std.specs.List.{list_any}
use Rattle.nm_types.specs.Limits.{buckets}
use Rattle.nm_types.specs.declared.id.PortId.{PortId}
use Rattle.vale_learn.specs.AddressTable.{Entries, no_stations, restored, entry_of}
use Rattle.vale_learn.specs.AddressTable.{learned as table_learned}
use Rattle.nm_types.specs.Frames.{Frame}
use Rattle.nm_types.specs.Names.{switch_of}
use Rattle.nm_types.specs.declared.id.Mac.{Mac}
use Rattle.vale_batch.specs.Looking.{learned_from}
use Rattle.vale_learn.specs.AddressTable.{port_of_address as table_port}
use Rattle.vale_entry.specs.declared.entry.Ask.{Ask}
use Rattle.vale_entry.specs.World.{World, Port, Pair, open_port, is_open}
use Rattle.vale_entry.specs.Learning.{learned}
use Rattle.vale_parts.specs.Ids.{port_id}
use Rattle.vale_entry.specs.declared.entry.Entry.{Entry}
use Rattle.vale_entry.specs.Legal.{standing_of, world_of, Follows}
use Rattle.vale_parts.specs.SwitchPorts.{is_open_on}
use Rattle.vale_parts.specs.Tables.{FindsPairs, Finds, FindsNothing, table_after}

-- what an entry makes of a switch's table finds what is learned once the entry is made
abbrev pub TablesFollow : Type 0
TablesFollow = (pool : ℕ) (history : List Entry) (entry : Entry) (switch : List ℕ) (entries : Entries) → Follows (standing_of pool history) entry → length entries ≡ buckets
    → Finds (world_of pool history) switch entries → Finds (world_of pool (history ++ entry ∷ [])) switch (table_after (world_of pool history) switch entry.ask entries)

-- a table that finds nothing is one for each switch that has no open port
abbrev pub EmptyTablesServe : Type 0
EmptyTablesServe = (pool : ℕ) (history : List Entry) (switch : List ℕ) (entries : Entries) → list_any (is_open_on switch) (world_of pool history).ports ≡ false
    → FindsNothing entries → Finds (world_of pool history) switch entries

-- and the table of a switch that has lost its last open port is such a table
abbrev pub LastPortsEmptyTables : Type 0
LastPortsEmptyTables = (pool : ℕ) (history : List Entry) (switch : List ℕ) (entries : Entries) → list_any (is_open_on switch) (world_of pool history).ports ≡ false
    → Finds (world_of pool history) switch entries → FindsNothing entries

-- what a table finds is an open port of its switch
pub record IsOpenOn (w : World) (switch : List ℕ) (id : PortId) : Type 0 where
  pub port : Port
  pub here : open_port w.ports id.0 ≡ Some port
  pub on : is_open_on switch port ≡ true

abbrev pub FoundPortsAreOpen : Type 0
FoundPortsAreOpen = (pool : ℕ) (history : List Entry) (switch : List ℕ) (entries : Entries) (address : List ℕ) (id : PortId) → Finds (world_of pool history) switch entries
    → table_port entries address ≡ Some id → IsOpenOn (world_of pool history) switch id

-- a fresh table finds nothing, and a table keeps its size
abbrev pub FreshTablesFindNothing : Type 0
FreshTablesFindNothing = FindsNothing no_stations

abbrev pub FreshTablesAreTables : Type 0
FreshTablesAreTables = length no_stations ≡ buckets

abbrev pub TablesKeepTheirSize : Type 0
TablesKeepTheirSize = (w : World) (switch : List ℕ) (ask : Ask) (entries : Entries) → length entries ≡ buckets → length (table_after w switch ask entries) ≡ buckets

-- one frame that a port of the switch sends
abbrev pub FramesAreLearned : Type 0
FramesAreLearned = (ports : List Port) (sender : Port) (pairs : List Pair) (entries : Entries) (frame : Frame) → length entries ≡ buckets → is_open ports sender.id ≡ true
    → FindsPairs ports pairs (switch_of sender.name) entries → FindsPairs ports (learned sender pairs frame) (switch_of sender.name) (learned_from (port_id sender.id) entries frame)

-- what was learned may be taken back, from what the entry held before
abbrev pub LearningIsTakenBack : Type 0
LearningIsTakenBack = (ports : List Port) (pairs : List Pair) (switch : List ℕ) (entries : Entries) (address : Mac) (port : PortId) → length entries ≡ buckets
    → FindsPairs ports pairs switch entries → FindsPairs ports pairs switch (restored (table_learned entries address port) address (entry_of entries address.0))
