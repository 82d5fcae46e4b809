-- Laws of the parts all together.
use Rattle.std.specs.Prelude.{ℕ, ◌≡◌, true, false, List, [], ◌∷◌, ◌++◌, Some, slice_get, slice_set}
use Rattle.nm_types.specs.Frames.{Frame}
use Rattle.nm_types.specs.Names.{switch_of, is_switch_port_name}
use Rattle.nm_types.specs.declared.id.PortId.{PortId}
use Rattle.nm_pool.specs.Free.{PoolState}
use Rattle.vale_learn.specs.AddressTable.{forgotten}
use Rattle.vale_batch.specs.Looking.{learned_of_batch}
use Rattle.vale_entry.specs.declared.entry.Ask.{Ask}
use Rattle.vale_entry.specs.declared.entry.Ask.TheVariants.{Send, Shut}
use Rattle.vale_entry.specs.declared.entry.Entry.{Entry}
use Rattle.vale_entry.specs.World.{World, Port, open_port}
use Rattle.vale_entry.specs.Legal.{standing_of, world_of, holdings_of, IsLegal, Follows}
use Rattle.vale_parts.specs.FreeBuffers.{FreeAre}
use Rattle.vale_parts.specs.SwitchTables.{SwitchTable, TablesAre, is_table_of, tables_after}
use Rattle.vale_parts.specs.Parts.{Parts, PartsAre, ArePartsAfter, changes_tables}

-- parts that change as an entry says are what stands once it is made
abbrev pub PartsFollow : Type 0
PartsFollow = (pool : ℕ) (history : List Entry) (entry : Entry) (parts next : Parts) → IsLegal pool history → Follows (standing_of pool history) entry
    → PartsAre (world_of pool history) (holdings_of pool history) parts → ArePartsAfter (world_of pool history) (holdings_of pool history) entry.ask entry.reply parts next
    → PartsAre (world_of pool (history ++ entry ∷ [])) (holdings_of pool (history ++ entry ∷ [])) next

-- and at first, where all buffers are free, they are empty
abbrev pub EmptyPartsAreFirst : Type 0
EmptyPartsAreFirst = (pool : ℕ) (free : PoolState) → FreeAre (holdings_of pool []) free → free.buffers ≡ pool
    → PartsAre (world_of pool []) (holdings_of pool []) (record { names = []; tables = []; watches = []; tally = []; free = free })

-- tables stay but for a Send and a Shut, which change that of their port's switch alone
abbrev pub TablesStay : Type 0
TablesStay = (w : World) (ask : Ask) (tables : List SwitchTable) → changes_tables ask ≡ false → tables_after w ask tables ≡ tables

abbrev pub SendsTeachOne : Type 0
SendsTeachOne = (w : World) (from : PortId) (frames : List Frame) (port : Port) (tables : List SwitchTable) (place : ℕ) (table : SwitchTable) → TablesAre w tables
    → open_port w.ports from.0 ≡ Some port → is_switch_port_name port.name ≡ true → slice_get tables place ≡ Some table → is_table_of (switch_of port.name) table ≡ true
    → tables_after w (Send from frames) tables ≡ slice_set tables place (record table { entries = learned_of_batch from table.entries frames })

abbrev pub ShutsEmptyOne : Type 0
ShutsEmptyOne = (w : World) (at : PortId) (port : Port) (tables : List SwitchTable) (place : ℕ) (table : SwitchTable) → TablesAre w tables
    → open_port w.ports at.0 ≡ Some port → is_switch_port_name port.name ≡ true → slice_get tables place ≡ Some table → is_table_of (switch_of port.name) table ≡ true
    → tables_after w (Shut at) tables ≡ slice_set tables place (record table { entries = forgotten table.entries at })

-- a port of no switch is in none
abbrev pub OtherShutsEmptyNone : Type 0
OtherShutsEmptyNone = (w : World) (at : PortId) (port : Port) (tables : List SwitchTable) → open_port w.ports at.0 ≡ Some port → is_switch_port_name port.name ≡ false
    → tables_after w (Shut at) tables ≡ tables
