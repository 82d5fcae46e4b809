-- The table of a sender's switch is found among those of all switches.
use Rattle.std.proofs.Common.{ℕ, true, ◌&&◌, ◌≡◌, ◌<◌, List, length, map, slice_get, slice_set, get_or, Option, Some, None, option_map, refl, sym, ◌∙◌, ap, subst, rules}
use Rattle.std.specs.List.{position}
use Rattle.std.proofs.lemmas.Bool.{and_parts, both_ways}
use Rattle.std.proofs.lemmas.List.{map-set}
use Rattle.std.proofs.lemmas.List.Quantifiers.{position-Some}
use Rattle.std.proofs.lemmas.Option.{slice_get-get_or, slice_get-map}
use Rattle.std.proofs.lemmas.Slice.Eq.{bytes_eq-Decides}
use Rattle.nm_types.specs.Frames.{Frame}
use Rattle.nm_types.specs.Sendable.{is_sendable}
use Rattle.nm_types.specs.Names.{switch_of, is_switch_port_name}
use Rattle.nm_types.specs.declared.id.PortId.{PortId}
use Rattle.vale_batch.specs.Looking.{learned_of_batch}
use Rattle.vale_entry.specs.declared.entry.Ask.TheVariants.{Send}
use Rattle.vale_entry.specs.World.{World, Port, open_port, is_settled}
use Rattle.vale_entry.specs.Legal.{can_send}
use Rattle.vale_entry.proofs.ListLaws.{each-at}
use Rattle.vale_parts.specs.Tables.{Finds}
use Rattle.vale_parts.specs.SwitchTables.{TablesAre, IsTableIn, HasTable, has_table, is_table_of, tables_after}
use Rattle.vale_parts.specs.BatchLaws.{IsSender}
use Rattle.vale_parts.proofs.AllParts.{sends_teach}
use Rattle.vale_steps.specs.declared.tables.NamedTable.{NamedTable}
use Rattle.vale_steps.specs.NamedTables.{is_for_switch}
use Rattle.vale_steps.specs.NamedTables.{table_seen}
use Rattle.vale_steps.proofs.NamedTables.{found-table, table-none}

-- the table at a place is that of the switch that a port of this name is on
pub record IsTableAt (w : World) (name : List ℕ) (tables : List NamedTable) (place : ℕ) (table : NamedTable) : Type 0 where
  pub within : place < length tables
  pub here : slice_get tables place ≡ Some table
  pub seen : slice_get (map table_seen tables) place ≡ Some (table_seen table)
  pub of : is_table_of (switch_of name) (table_seen table) ≡ true
  pub switch_is : switch_of table.label ≡ switch_of name
  pub is : IsTableIn w (table_seen table)
  pub finds : Finds w (switch_of name) table.table

table-of : (w : World) (name : List ℕ) (tables : List NamedTable) (place : ℕ) (table : NamedTable) → TablesAre w (map table_seen tables)
    → place < length tables → slice_get tables place ≡ Some table → is_for_switch (switch_of name) table ≡ true → IsTableAt w name tables place table
table-of w name tables place table are within here of =
    let seen : slice_get (map table_seen tables) place ≡ Some (table_seen table) = slice_get-map table_seen tables place ∙ ap (option_map table_seen) here in
    let same : switch_of table.label ≡ switch_of name = (bytes_eq-Decides (switch_of table.label) (switch_of name)).0 of in
    let in_world = each-at (IsTableIn w) (map table_seen tables) place (table_seen table) are.each seen in
    let finds = subst (λ (switch : List ℕ). Finds w switch table.table) same in_world.finds in
    search rules

pub table-at : (w : World) (name : List ℕ) (tables : List NamedTable) (place : ℕ) (table : NamedTable) → TablesAre w (map table_seen tables)
    → position (is_for_switch (switch_of name)) tables ≡ Some place → table ≡ get_or tables place table → IsTableAt w name tables place table
table-at w name tables place table are found is =
    let facts = position-Some (is_for_switch (switch_of name)) tables place table found in
    table-of w name tables place table are facts.0 (slice_get-get_or tables place table facts.0 ∙ ap (λ (t : NamedTable). Some t) (sym is))
    (ap (is_for_switch (switch_of name)) is ∙ facts.1)

-- a port's switch has its table
pub record HasItsTable (w : World) (name : List ℕ) (tables : List NamedTable) : Type 0 where
  pub place : ℕ
  pub table : NamedTable
  pub found : position (is_for_switch (switch_of name)) tables ≡ Some place
  pub at : IsTableAt w name tables place table

pub table-found : (w : World) (port : Port) (at : ℕ) (tables : List NamedTable) → TablesAre w (map table_seen tables) → slice_get w.ports at ≡ Some port → is_switch_port_name port.name ≡ true
    → HasItsTable w port.name tables
table-found w port at tables are there named = by_place (position (is_for_switch (switch_of port.name)) tables) refl
  where
    by_place : (found : Option ℕ) → position (is_for_switch (switch_of port.name)) tables ≡ found → HasItsTable w port.name tables
    by_place None is =
        let has = each-at (HasTable (map table_seen tables)) w.ports at port are.there there named in
        absurd (both_ways (has_table (switch_of port.name) (map table_seen tables)) (table-none (switch_of port.name) tables is) has)
    by_place (Some place) is =
        let found = found-table (switch_of port.name) tables place is in
        record { place = place; table = found.table; found = is; at = table-of w port.name tables place found.table are found.within found.here found.its }

-- so the port sends by it
pub sender-at : (w : World) (from : PortId) (frames : List Frame) (port : Port) (tables : List NamedTable) (place : ℕ) (table : NamedTable) → IsTableAt w port.name tables place table
    → open_port w.ports from.0 ≡ Some port → can_send w frames port ≡ true → IsSender w from frames port table.table
sender-at w from frames port tables place table at here can = record { here = here; can = can; size = at.is.size; finds = at.finds }

-- and what it sends teaches this table alone
pub sends-teach_at : (w : World) (from : PortId) (frames : List Frame) (port : Port) (tables new : List NamedTable) (place : ℕ) (table : NamedTable) → TablesAre w (map table_seen tables)
    → IsTableAt w port.name tables place table → open_port w.ports from.0 ≡ Some port → can_send w frames port ≡ true
    → new ≡ slice_set tables place (record table { table = learned_of_batch from table.table frames }) → map table_seen new ≡ tables_after w (Send from frames) (map table_seen tables)
sends-teach_at w from frames port tables new place table are at here can made =
    let named = (and_parts (is_switch_port_name port.name) (is_settled w port.session && is_sendable frames) can).0 in
    ap (map table_seen) made
    ∙ (map-set table_seen tables place (record table { table = learned_of_batch from table.table frames })
    ∙ sym (sends_teach w from frames port (map table_seen tables) place (table_seen table) are here named at.seen at.of))
