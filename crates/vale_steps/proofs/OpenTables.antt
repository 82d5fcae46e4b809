-- The learning table of a port's switch is there, given over or added.
use Rattle.std.proofs.Common.{ℕ, zero, suc, Bool, true, false, ◌||◌, ◌≡◌, ◌<◌, List, [], ◌∷◌, ◌++◌, length, map, slice_get, slice_set, get_or, Option, Some, None, option_map, is_some, refl, sym, ◌∙◌, ap, subst, arith}
use Rattle.std.specs.List.{list_any, position}
use Rattle.std.proofs.lemmas.Bool.{not-true}
use Rattle.std.proofs.lemmas.List.{map-append, map-set}
use Rattle.std.proofs.lemmas.List.Folds.{list_any-append, list_any_at}
use Rattle.std.proofs.lemmas.List.Quantifiers.{position-Some}
use Rattle.std.proofs.lemmas.Option.{slice_get-get_or, slice_get-map}
use Rattle.std.proofs.lemmas.Slice.Eq.{bytes_eq-Decides}
use Rattle.vale_names.proofs.SwitchLemmas.{position_none}
use Rattle.nm_types.specs.Names.{switch_of}
use Rattle.nm_types.specs.Openings.{is_on_switch as is_name_on}
use Rattle.nm_types.proofs.Tests.{or_true}
use Rattle.vale_learn.specs.AddressTable.{no_stations}
use Rattle.vale_entry.specs.World.{Port}
use Rattle.vale_entry.specs.Opening.{is_on_switch}
use Rattle.vale_entry.specs.Legal.{world_of}
use Rattle.vale_port.specs.Ports.{PortState}
use Rattle.vale_parts.specs.SwitchTables.{SwitchTable, TablesAre, has_table, is_table_of}
use Rattle.vale_parts.proofs.AllTables.{given_over, fresh_added}
use Rattle.vale_steps.specs.declared.tables.NamedTable.{NamedTable}
use Rattle.vale_steps.specs.NamedTables.{is_for_switch}
use Rattle.vale_steps.specs.NamedTables.{table_seen}
use Rattle.vale_steps.specs.OpenParts.{is_port_on, is_vacant, name_of_state, name_of_port, StillTables}
use Rattle.vale_steps.proofs.NamedTables.{any-map, seen-any}

any-set : {X : Type 0} (test : X → Bool) (xs : List X) (at : ℕ) (x : X) → at < length xs → test x ≡ true → list_any test (slice_set xs at x) ≡ true
any-set test [] at x within passes = absurd (omega (arith, within))
any-set test (y ∷ ys) zero x within passes = ap (λ (b : Bool). b || list_any test ys) passes
any-set test (y ∷ ys) (suc at) x within passes = ap (λ (b : Bool). test y || b) (any-set test ys at x (omega (arith, within)) passes) ∙ or_true (test y)

-- the ports of a list and those of a world are on the same switches
pub used-same : (switch : List ℕ) (ps : List PortState) (ports : List Port) → map name_of_state ps ≡ map name_of_port ports
    → list_any (is_port_on switch) ps ≡ list_any (is_on_switch switch) ports
used-same switch ps ports same =
    sym (any-map (is_name_on switch) name_of_state ps) ∙ (ap (list_any (is_name_on switch)) same ∙ any-map (is_name_on switch) name_of_port ports)

-- a table that was found vacant
record IsGiven (ps : List PortState) (tables : List NamedTable) (at : ℕ) (table : NamedTable) : Type 0 where
  within : at < length tables
  here : slice_get tables at ≡ Some table
  vacant : list_any (is_port_on (switch_of table.label)) ps ≡ false

given-at : (ps : List PortState) (tables : List NamedTable) (at : ℕ) (table : NamedTable) → position (is_vacant ps) tables ≡ Some at → table ≡ get_or tables at table → IsGiven ps tables at table
given-at ps tables at table found is =
    let facts = position-Some (is_vacant ps) tables at table found in
    record {
      within = facts.0;
      here = slice_get-get_or tables at table facts.0 ∙ ap (λ (t : NamedTable). Some t) (sym is);
      vacant = not-true (list_any (is_port_on (switch_of table.label)) ps) (ap (is_vacant ps) is ∙ facts.1);
    }

abbrev relabelled : List ℕ → NamedTable → NamedTable
relabelled name table = record { label = name; table = table.table }

pub given-there : (ps : List PortState) (tables : List NamedTable) (at : ℕ) (table : NamedTable) (name : List ℕ) → position (is_vacant ps) tables ≡ Some at → table ≡ get_or tables at table
    → has_table (switch_of name) (map table_seen (slice_set tables at (relabelled name table))) ≡ true
given-there ps tables at table name found is =
    let given = given-at ps tables at table found is in
    any-map (is_table_of (switch_of name)) table_seen (slice_set tables at (relabelled name table))
    ∙ any-set (λ (t : NamedTable). is_table_of (switch_of name) (table_seen t)) tables at (relabelled name table) given.within ((bytes_eq-Decides (switch_of name) (switch_of name)).1 refl)

pub given-kept : (ps : List PortState) (tables : List NamedTable) (at : ℕ) (table : NamedTable) (name : List ℕ) → position (is_vacant ps) tables ≡ Some at → table ≡ get_or tables at table
    → has_table (switch_of name) (map table_seen tables) ≡ false → StillTables ps tables (slice_set tables at (relabelled name table))
given-kept ps tables at table name found is none = λ pool h same are.
    let given = given-at ps tables at table found is in
    let there : slice_get (map table_seen tables) at ≡ Some (table_seen table) = slice_get-map table_seen tables at ∙ ap (option_map table_seen) given.here in
    let unused : list_any (is_on_switch (switch_of table.label)) (world_of pool h).ports ≡ false = sym (used-same (switch_of table.label) ps (world_of pool h).ports same) ∙ given.vacant in
    subst (TablesAre (world_of pool h)) (sym (map-set table_seen tables at (relabelled name table)))
    (given_over pool h (map table_seen tables) at (table_seen table) (switch_of name) are there unused none)

pub added-there : (tables : List NamedTable) (new : NamedTable) → has_table (switch_of new.label) (map table_seen (tables ++ new ∷ [])) ≡ true
added-there tables new =
    let own : is_table_of (switch_of new.label) (table_seen new) ≡ true = (bytes_eq-Decides (switch_of new.label) (switch_of new.label)).1 refl in
    ap (has_table (switch_of new.label)) (map-append table_seen tables (new ∷ []))
    ∙ (list_any-append (is_table_of (switch_of new.label)) (map table_seen tables) (table_seen new ∷ [])
    ∙ (ap (λ (b : Bool). has_table (switch_of new.label) (map table_seen tables) || (b || false)) own ∙ or_true (has_table (switch_of new.label) (map table_seen tables))))

pub added-kept : (ps : List PortState) (tables : List NamedTable) (new : NamedTable) → new.table ≡ no_stations → has_table (switch_of new.label) (map table_seen tables) ≡ false
    → StillTables ps tables (tables ++ new ∷ [])
added-kept ps tables new empty none = λ pool h same are.
    let seen : table_seen new ≡ record { switch = switch_of new.label; entries = no_stations } = rw empty refl in
    subst (TablesAre (world_of pool h)) (sym (map-append table_seen tables (new ∷ []) ∙ ap (λ (t : SwitchTable). map table_seen tables ++ t ∷ []) seen))
    (fresh_added pool h (map table_seen tables) (switch_of new.label) are none)

-- a search tells whether a table is there
found-any : (switch : List ℕ) (tables : List NamedTable) (at : ℕ) → position (is_for_switch switch) tables ≡ Some at → list_any (is_for_switch switch) tables ≡ true
found-any switch [] at found = absurd cc
found-any switch (t ∷ ts) at found =
    let facts = position-Some (is_for_switch switch) (t ∷ ts) at t found in
    list_any_at (is_for_switch switch) (t ∷ ts) at t facts.0 facts.1

pub seen-found : (switch : List ℕ) (tables : List NamedTable) → has_table switch (map table_seen tables) ≡ is_some (position (is_for_switch switch) tables)
seen-found switch tables = by_place (position (is_for_switch switch) tables) refl
  where
    by_place : (found : Option ℕ) → position (is_for_switch switch) tables ≡ found → has_table switch (map table_seen tables) ≡ is_some found
    by_place None is = seen-any switch tables ∙ position_none (is_for_switch switch) tables is
    by_place (Some at) is = seen-any switch tables ∙ found-any switch tables at is
