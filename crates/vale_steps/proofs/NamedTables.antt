-- The table of a switch stands at its place, as the parts see it.
use Rattle.std.proofs.Common.{ℕ, Bool, true, false, List, [], ◌∷◌, ◌≡◌, ◌<◌, ◌||◌, length, map, Some, None, slice_get, get_or, refl, ◌∙◌, ap}
use Rattle.std.specs.Prelude.{position}
use Rattle.std.specs.List.{list_any}
use Rattle.std.proofs.lemmas.List.Quantifiers.{position-Some}
use Rattle.std.proofs.lemmas.Option.{slice_get-get_or}
use Rattle.vale_names.proofs.SwitchLemmas.{position_none}
use Rattle.vale_parts.specs.SwitchTables.{has_table, is_table_of}
use Rattle.vale_steps.specs.declared.tables.NamedTable.{NamedTable}
use Rattle.vale_steps.specs.NamedTables.{table_seen}
use Rattle.vale_steps.specs.NamedTables.{is_for_switch}

-- the table that a look-up finds
pub record IsFoundTable (switch : List ℕ) (tables : List NamedTable) (place : ℕ) : Type 0 where
  pub table : NamedTable
  pub within : place < length tables
  pub here : slice_get tables place ≡ Some table
  pub its : is_for_switch switch table ≡ true

pub found-table : (switch : List ℕ) (tables : List NamedTable) (place : ℕ) → position (is_for_switch switch) tables ≡ Some place → IsFoundTable switch tables place
found-table switch [] place is = absurd cc
found-table switch (t ∷ ts) place is =
    let at = position-Some (is_for_switch switch) (t ∷ ts) place t is in
    record { table = get_or (t ∷ ts) place t; within = at.0; here = slice_get-get_or (t ∷ ts) place t at.0; its = at.1 }

-- a switch has a table where the parts have one of it
pub any-map : {X Y : Type 0} (test : Y → Bool) (f : X → Y) (xs : List X) → list_any test (map f xs) ≡ list_any (λ x. test (f x)) xs
any-map test f [] = refl
any-map test f (x ∷ xs) = ap (λ (b : Bool). test (f x) || b) (any-map test f xs)

pub seen-any : (switch : List ℕ) (tables : List NamedTable) → has_table switch (map table_seen tables) ≡ list_any (is_for_switch switch) tables
seen-any switch tables = any-map (is_table_of switch) table_seen tables

pub table-none : (switch : List ℕ) (tables : List NamedTable) → position (is_for_switch switch) tables ≡ None → has_table switch (map table_seen tables) ≡ false
table-none switch tables none = seen-any switch tables ∙ position_none (is_for_switch switch) tables none
