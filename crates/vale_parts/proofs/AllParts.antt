-- The parts all together, entry by entry.
use Rattle.std.proofs.Common.{ℕ, zero, suc, Bool, true, false, cond, ◌≡◌, ◌≤◌, ◌+◌, List, [], ◌∷◌, ◌++◌, map, count_by, slice_get, slice_set, Some, refl, sym, ◌∙◌, ap, subst, arith, bytes_eq}
use Rattle.std.proofs.lemmas.Bool.{and_from, and_left, and_right, false_from_ne_true}
use Rattle.std.proofs.lemmas.Slice.Eq.{bytes_eq-Decides}
use Rattle.std.proofs.lemmas.List.Sums.{sum_by-cons}
use Rattle.std.proofs.lemmas.List.Sorted.{IsPermutation-refl}
use Rattle.nm_types.specs.Names.{switch_of, is_switch_port_name}
use Rattle.vale_learn.specs.AddressTable.{Entries, forgotten}
use Rattle.vale_batch.specs.Looking.{learned_of_batch}
use Rattle.vale_entry.specs.declared.entry.Ask.{Ask}
use Rattle.vale_entry.specs.declared.entry.Ask.TheVariants.{Send, Shut}
use Rattle.vale_entry.specs.World.{World, Port, open_port}
use Rattle.vale_entry.specs.Opening.{is_on_switch}
use Rattle.vale_entry.specs.Legal.{world_of, is_met}
use Rattle.vale_parts.specs.SwitchTables.{SwitchTable, TablesAre, is_table_of, table_with}
use Rattle.vale_parts.specs.WorldCounts.{CountsAre}
use Rattle.vale_parts.specs.Parts.{changes_tables}
use Rattle.vale_parts.specs.PartLaws.{PartsFollow, EmptyPartsAreFirst, TablesStay, SendsTeachOne, ShutsEmptyOne, OtherShutsEmptyNone}
use Rattle.vale_parts.proofs.NamesKept.{names_follow}
use Rattle.vale_parts.proofs.AllTables.{all_follow}
use Rattle.vale_parts.proofs.WatchesKept.{watches_follow}
use Rattle.vale_parts.proofs.CountsKept.{counts_follow}
use Rattle.vale_parts.proofs.FreeKept.{free_follow, size_kept}
use Rattle.vale_entry.proofs.HistoryLaws.{history-stands}
use Rattle.vale_entry.proofs.Worlds.{legal-push}

pub parts_follow : PartsFollow
parts_follow pool h e parts next legal follows are made =
    let w = world_of pool (h ++ e ∷ []) in
    record {
      names_are = names_follow pool h e parts.names next.names follows are.names_are made.names_next;
      tables_are = subst (TablesAre w) (sym made.tables_next) (all_follow pool h e parts.tables follows are.tables_are made.tables_wanted);
      watches_are = watches_follow pool h e parts.watches next.watches legal follows are.watches_are made.watches_next;
      counts_are = subst (CountsAre w) (sym made.tally_next) (counts_follow pool h e parts.tally legal follows are.counts_are);
      free_are = free_follow pool h e parts.free next.free follows are.free_are made.free_next;
      pool_is = size_kept pool h e parts.free next.free follows made.free_next ∙ (are.pool_is ∙ ((history-stands pool h legal).pool_is ∙ sym (history-stands pool (h ++ e ∷ []) (legal-push pool h e legal follows)).pool_is));
    }

pub empty_first : EmptyPartsAreFirst
empty_first pool free are size = record {
  names_are = IsPermutation-refl [];
  tables_are = record { each = tt; there = tt; once = λ switch. omega arith };
  watches_are = record { transmit = λ port. refl; receive = λ port. refl };
  counts_are = refl;
  free_are = are;
  pool_is = size;
}

-- ---- tables that stay

all_same : (change : SwitchTable → SwitchTable) → ((t : SwitchTable) → change t ≡ t) → (tables : List SwitchTable) → map change tables ≡ tables
all_same change same [] = refl
all_same change same (t ∷ ts) = ap (λ (u : SwitchTable). u ∷ map change ts) (same t) ∙ ap (λ (us : List SwitchTable). t ∷ us) (all_same change same ts)

table_stays : (w : World) (ask : Ask) → changes_tables ask ≡ false → (t : SwitchTable) → table_with w ask t ≡ t
table_stays w (Send from frames) stays t = absurd cc
table_stays w (Shut at) stays t = absurd cc
table_stays w _ stays t = refl

pub tables_stay : TablesStay
tables_stay w ask tables stays = all_same (table_with w ask) (table_stays w ask stays) tables

-- ---- one table that changes

abbrev one_if : Bool → ℕ
one_if b = cond b 1 0

counted : (test : SwitchTable → Bool) (t : SwitchTable) (ts : List SwitchTable) → count_by test (t ∷ ts) ≡ one_if (test t) + count_by test ts
counted test t ts = sum_by-cons (λ (x : SwitchTable). one_if (test x)) t ts

none_at : (test : SwitchTable → Bool) (tables : List SwitchTable) (place : ℕ) (table : SwitchTable) → count_by test tables ≤ 0 → slice_get tables place ≡ Some table → test table ≡ false
none_at test [] place table none here = absurd cc
none_at test (t ∷ ts) zero table none here =
    let same : t ≡ table = cc in
    let sum = counted test t ts in
    false_from_ne_true (test table) (λ passes. let one : one_if (test t) ≡ 1 = ap one_if (ap test same ∙ passes) in absurd (omega (arith, none, sum, one)))
none_at test (t ∷ ts) (suc place) table none here = let sum = counted test t ts in none_at test ts place table (omega (arith, none, sum)) here

rest_same : (test : SwitchTable → Bool) (change : SwitchTable → SwitchTable) → ((t : SwitchTable) → test t ≡ false → change t ≡ t) → (tables : List SwitchTable) → count_by test tables ≤ 0 → map change tables ≡ tables
rest_same test change same [] none = refl
rest_same test change same (t ∷ ts) none =
    let sum = counted test t ts in
    let other : test t ≡ false = none_at test (t ∷ ts) 0 t none refl in
    ap (λ (u : SwitchTable). u ∷ map change ts) (same t other) ∙ ap (λ (us : List SwitchTable). t ∷ us) (rest_same test change same ts (omega (arith, none, sum)))

one_changed : (test : SwitchTable → Bool) (change : SwitchTable → SwitchTable) → ((t : SwitchTable) → test t ≡ false → change t ≡ t) → (tables : List SwitchTable) (place : ℕ) (table : SwitchTable)
    → slice_get tables place ≡ Some table → test table ≡ true → count_by test tables ≤ 1 → map change tables ≡ slice_set tables place (change table)
one_changed test change same [] place table here passes once = absurd cc
one_changed test change same (t ∷ ts) zero table here passes once =
    let equal : t ≡ table = cc in
    let sum = counted test t ts in
    let one : one_if (test t) ≡ 1 = ap one_if (ap test equal ∙ passes) in
    ap (λ (u : SwitchTable). change u ∷ map change ts) equal ∙ ap (λ (us : List SwitchTable). change table ∷ us) (rest_same test change same ts (omega (arith, once, sum, one)))
one_changed test change same (t ∷ ts) (suc place) table here passes once =
    let sum = counted test t ts in
    let other : test t ≡ false = false_from_ne_true (test t) (λ is.
    let one : one_if (test t) ≡ 1 = ap one_if is in
    let missed = none_at test ts place table (omega (arith, once, sum, one)) here in
    let wrong : true ≡ false = sym passes ∙ missed in
    cc) in
    ap (λ (u : SwitchTable). u ∷ map change ts) (same t other)
    ∙ ap (λ (us : List SwitchTable). t ∷ us) (one_changed test change same ts place table here passes (omega (arith, once, sum)))

-- a port is on the switch of a table, or it is not
turned_off : (port : Port) (t : SwitchTable) → is_table_of (switch_of port.name) t ≡ false → is_on_switch t.switch port ≡ false
turned_off port t off =
    and_right (is_switch_port_name port.name) (bytes_eq (switch_of port.name) t.switch) (false_from_ne_true (bytes_eq (switch_of port.name) t.switch) (λ passes.
    let same : switch_of port.name ≡ t.switch = (bytes_eq-Decides (switch_of port.name) t.switch).0 passes in
    let on : bytes_eq t.switch (switch_of port.name) ≡ true = (bytes_eq-Decides t.switch (switch_of port.name)).1 (sym same) in
    let wrong : true ≡ false = sym on ∙ off in
    cc))

turned_on : (port : Port) (t : SwitchTable) → is_switch_port_name port.name ≡ true → is_table_of (switch_of port.name) t ≡ true → is_on_switch t.switch port ≡ true
turned_on port t named on =
    let same : t.switch ≡ switch_of port.name = (bytes_eq-Decides t.switch (switch_of port.name)).0 on in
    and_from (is_switch_port_name port.name) (bytes_eq (switch_of port.name) t.switch) named ((bytes_eq-Decides (switch_of port.name) t.switch).1 (sym same))

met : (ports : List Port) (id : ℕ) (port : Port) (switch : List ℕ) (b : Bool) → open_port ports id ≡ Some port → is_on_switch switch port ≡ b → is_met (is_on_switch switch) (open_port ports id) ≡ b
met ports id port switch b here on = ap (is_met (is_on_switch switch)) here ∙ on

table_by : (t : SwitchTable) (next : Entries) (b c : Bool) → b ≡ c → record t { entries = cond b next t.entries } ≡ record t { entries = cond c next t.entries }
table_by t next b c e = ap (λ (x : Bool). record t { entries = cond x next t.entries }) e

pub sends_teach : SendsTeachOne
sends_teach w from frames port tables place table are here named at on =
    let change = table_with w (Send from frames) in
    one_changed (is_table_of (switch_of port.name)) change
    (λ t off. table_by t (learned_of_batch from t.entries frames) (is_met (is_on_switch t.switch) (open_port w.ports from.0)) false (met w.ports from.0 port t.switch false here (turned_off port t off)))
    tables place table at on (are.once (switch_of port.name))
    ∙ ap (slice_set tables place) (table_by table (learned_of_batch from table.entries frames) (is_met (is_on_switch table.switch) (open_port w.ports from.0)) true (met w.ports from.0 port table.switch true here (turned_on port table named on)))

pub shuts_empty : ShutsEmptyOne
shuts_empty w id port tables place table are here named at on =
    let change = table_with w (Shut id) in
    one_changed (is_table_of (switch_of port.name)) change
    (λ t off. table_by t (forgotten t.entries id) (is_met (is_on_switch t.switch) (open_port w.ports id.0)) false (met w.ports id.0 port t.switch false here (turned_off port t off)))
    tables place table at on (are.once (switch_of port.name))
    ∙ ap (slice_set tables place) (table_by table (forgotten table.entries id) (is_met (is_on_switch table.switch) (open_port w.ports id.0)) true (met w.ports id.0 port table.switch true here (turned_on port table named on)))

pub other_shuts : OtherShutsEmptyNone
other_shuts w id port tables here unnamed =
    all_same (table_with w (Shut id))
    (λ t. table_by t (forgotten t.entries id) (is_met (is_on_switch t.switch) (open_port w.ports id.0)) false
    (met w.ports id.0 port t.switch false here (and_left (is_switch_port_name port.name) (bytes_eq (switch_of port.name) t.switch) unnamed))) tables
