-- The tables of all switches that have a port.
use Rattle.std.specs.Prelude.{ℕ, Bool, ◌≡◌, ◌≤◌, true, List, length, map, count_by, bytes_eq}
use Rattle.std.specs.List.{list_any, AllByRecursion}
use Rattle.nm_types.specs.Limits.{buckets}
use Rattle.nm_types.specs.Names.{switch_of, is_switch_port_name}
use Rattle.vale_learn.specs.AddressTable.{Entries}
use Rattle.vale_entry.specs.declared.entry.Ask.{Ask}
use Rattle.vale_entry.specs.declared.entry.Ask.TheVariants.{Open}
use Rattle.vale_entry.specs.declared.entry.Reply.{Reply}
use Rattle.vale_entry.specs.declared.entry.Reply.TheVariants.{Opened}
use Rattle.vale_entry.specs.World.{World, Port}
use Rattle.vale_parts.specs.Tables.{Finds, table_after}

pub record SwitchTable : Type 0 where
  pub switch : List ℕ
  pub entries : Entries

abbrev pub is_table_of : List ℕ → SwitchTable → Bool
is_table_of switch table = bytes_eq table.switch switch

abbrev pub has_table : List ℕ → List SwitchTable → Bool
has_table switch tables = list_any (is_table_of switch) tables

pub record IsTableIn (w : World) (table : SwitchTable) : Type 0 where
  pub size : length table.entries ≡ buckets
  pub finds : Finds w table.switch table.entries

abbrev pub HasTable : List SwitchTable → Port → Type 0
HasTable tables port = is_switch_port_name port.name ≡ true → has_table (switch_of port.name) tables ≡ true

-- each port of a switch, open or shutting, has its switch's table, and a switch has one at most
pub record TablesAre (w : World) (tables : List SwitchTable) : Type 0 where
  pub each : AllByRecursion (IsTableIn w) tables
  pub there : AllByRecursion (HasTable tables) w.ports
  pub once : (switch : List ℕ) → count_by (is_table_of switch) tables ≤ 1

abbrev pub table_with : World → Ask → SwitchTable → SwitchTable
table_with w ask table = record table { entries = table_after w table.switch ask table.entries }

abbrev pub tables_after : World → Ask → List SwitchTable → List SwitchTable
tables_after w ask tables = map (table_with w ask) tables

-- an opening wants a table for its port's switch
abbrev pub WantsTable : Ask → Reply → List SwitchTable → Type 0
WantsTable (Open session name tx rx extra) Opened tables = is_switch_port_name name ≡ true → has_table (switch_of name) tables ≡ true
WantsTable _ _ tables = Unit {0}
