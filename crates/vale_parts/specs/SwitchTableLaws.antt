-- Laws of the tables of all switches.
use Rattle.std.specs.Prelude.{ℕ, ◌≡◌, false, List, [], ◌∷◌, ◌++◌, Some, slice_get, slice_set}
use Rattle.std.specs.List.{list_any}
use Rattle.vale_learn.specs.AddressTable.{no_stations}
use Rattle.vale_entry.specs.declared.entry.Entry.{Entry}
use Rattle.vale_entry.specs.Opening.{is_on_switch}
use Rattle.vale_entry.specs.Legal.{standing_of, world_of, Follows}
use Rattle.vale_parts.specs.SwitchTables.{SwitchTable, TablesAre, has_table, tables_after, WantsTable}

-- each entry teaches and empties the tables; an opening finds its switch's table there
abbrev pub AllTablesFollow : Type 0
AllTablesFollow = (pool : ℕ) (history : List Entry) (entry : Entry) (tables : List SwitchTable) → Follows (standing_of pool history) entry → TablesAre (world_of pool history) tables
    → WantsTable entry.ask entry.reply tables → TablesAre (world_of pool (history ++ entry ∷ [])) (tables_after (world_of pool history) entry.ask tables)

-- the table of a switch that has lost its last port is given to a switch that has none
abbrev pub TablesAreGivenOver : Type 0
TablesAreGivenOver = (pool : ℕ) (history : List Entry) (tables : List SwitchTable) (place : ℕ) (table : SwitchTable) (switch : List ℕ) → TablesAre (world_of pool history) tables
    → slice_get tables place ≡ Some table → list_any (is_on_switch table.switch) (world_of pool history).ports ≡ false → has_table switch tables ≡ false
    → TablesAre (world_of pool history) (slice_set tables place (record table { switch = switch }))

-- or a fresh one is added
abbrev pub FreshTablesAreAdded : Type 0
FreshTablesAreAdded = (pool : ℕ) (history : List Entry) (tables : List SwitchTable) (switch : List ℕ) → TablesAre (world_of pool history) tables → has_table switch tables ≡ false
    → TablesAre (world_of pool history) (tables ++ (record { switch = switch; entries = no_stations }) ∷ [])
