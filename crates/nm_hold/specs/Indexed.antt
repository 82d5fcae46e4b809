-- The rows that keep the tables of ports, each found by its port's number.
use Rattle.std.specs.Prelude.{ℕ, ◌≡◌, List, [], ◌∷◌, Option, Some, None, is_some, option_map, slice_index_or}
use Rattle.std.specs.Option.{option_map_or}
use Rattle.nm_types.specs.declared.place.Place.{Place}
use Rattle.nm_hold.specs.declared.table.PortTable.{PortTable}
use Rattle.nm_hold.specs.Offsets.{has_port, ArePortsOnce}
use Rattle.nm_hold.specs.Tables.{ports_of, number_in}

-- the tables, without the rows of ports that have gone
abbrev pub tables_present : List (Option PortTable) → List PortTable
tables_present [] = []
tables_present (None ∷ rows) = tables_present rows
tables_present (Some t ∷ rows) = t ∷ tables_present rows

abbrev pub row_at : List (Option PortTable) → ℕ → Option PortTable
row_at rows at = slice_index_or rows at None

-- the port of a row
abbrev pub port_in : Option PortTable → Option ℕ
port_in row = option_map (λ (t : PortTable). t.places.port.0) row

-- the number at a place of a row's port
abbrev pub number_in_row : Option PortTable → Place → ℕ
number_in_row found place = option_map_or (λ (t : PortTable). number_in t place) found 0

abbrev pub port_at : List (Option PortTable) → ℕ → Option ℕ
port_at rows at = port_in (row_at rows at)

-- a port is found in the row that has its table, and no other number is found
pub record IsIndexed (rows : List (Option PortTable)) (index : ℕ → Option ℕ) : Type 0 where
  pub found : (at port : ℕ) → port_at rows at ≡ Some port → index port ≡ Some at
  pub there : (at port : ℕ) → index port ≡ Some at → port_at rows at ≡ Some port

-- the numbers that are found are those of the ports, each of which is there once
pub record AreKeys (rows : List (Option PortTable)) (index : ℕ → Option ℕ) : Type 0 where
  pub once : ArePortsOnce (ports_of (tables_present rows))
  pub known : (port : ℕ) → is_some (index port) ≡ has_port (ports_of (tables_present rows)) port
