-- The table of a switch among those of all switches.
use Rattle.std.specs.Prelude.{ℕ, Bool, true, ◌≡◌, List, Some, slice_get, slice_set}
use Rattle.nm_types.specs.Names.{switch_of}
use Rattle.nm_types.specs.declared.id.PortId.{PortId}
use Rattle.vale_learn.specs.AddressTable.{forgotten}
use Rattle.vale_parts.specs.SwitchTables.{SwitchTable, is_table_of}
use Rattle.vale_steps.specs.declared.tables.NamedTable.{NamedTable}

-- a switch's table is kept under a name on that switch
abbrev pub table_seen : NamedTable → SwitchTable
table_seen table = record { switch = switch_of table.label; entries = table.table }

abbrev pub is_for_switch : List ℕ → NamedTable → Bool
is_for_switch switch table = is_table_of switch (table_seen table)

-- a table without what it learned of a port
abbrev pub without_port : PortId → NamedTable → NamedTable
without_port port table = record table { table = forgotten table.table port }

-- the table at a place has forgotten the port
abbrev pub IsForgottenAt : PortId → ℕ → List NamedTable → List NamedTable → Type 0
IsForgottenAt port place old new = (table : NamedTable) → slice_get old place ≡ Some table → new ≡ slice_set old place (without_port port table)

-- a table of the switch has
pub record IsForgottenOn (switch : List ℕ) (port : PortId) (old new : List NamedTable) : Type 0 where
  pub place : ℕ
  pub table : NamedTable
  pub here : slice_get old place ≡ Some table
  pub its : is_for_switch switch table ≡ true
  pub is : new ≡ slice_set old place (without_port port table)
