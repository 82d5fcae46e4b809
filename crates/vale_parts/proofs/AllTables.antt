-- The tables of all switches, as entries are made and switches come and go.
use Rattle.std.proofs.Common.{ℕ, zero, suc, Bool, true, false, cond, not, ◌≡◌, ◌≤◌, ◌+◌, ◌||◌, ◌==◌, List, [], ◌∷◌, ◌++◌, length, map, count_by, slice_get, slice_set, Some, refl, sym, ◌∙◌, ap, subst, arith, bytes_eq}
use Rattle.std.specs.List.{AllByRecursion as Each, list_any}
use Rattle.std.proofs.lemmas.Bool.{and_from, and_parts, or_parts, or_from, or_right, false_from_ne_true, and_right}
use Rattle.std.proofs.lemmas.Slice.Eq.{bytes_eq-Decides}
use Rattle.std.proofs.lemmas.List.Sums.{sum_by-cons, sum_by_push}
use Rattle.nm_types.specs.Names.{switch_of, is_switch_port_name}
use Rattle.vale_learn.specs.AddressTable.{no_stations}
use Rattle.vale_entry.specs.declared.entry.Entry.{Entry}
use Rattle.vale_entry.specs.World.{World, Port, changed_if, changed_at}
use Rattle.vale_entry.specs.Opening.{opened_port, is_on_switch}
use Rattle.vale_entry.specs.Grant.{port_after_grant, granted_frames}
use Rattle.vale_entry.specs.Delivery.{port_after_done, port_after_sync}
use Rattle.vale_entry.specs.Closing.{shut}
use Rattle.vale_entry.specs.Pipe.{frames_of_items, port_after_put}
use Rattle.vale_entry.specs.Legal.{Standing, after, standing_of, world_of, Follows}
use Rattle.vale_entry.proofs.ListLaws.{each-at, each-set, sum-set}
use Rattle.vale_entry.proofs.Each.{each-weaker, each-both, each-none, each-map, each-append, any-append_left}
use Rattle.vale_entry.proofs.Removals.{each-filter}
use Rattle.vale_entry.proofs.Worlds.{standing-push}
use Rattle.vale_entry.proofs.Follows.{EachKind, Left, follows-by}
use Rattle.vale_parts.specs.SwitchPorts.{is_open_on}
use Rattle.vale_parts.specs.SwitchTables.{SwitchTable, is_table_of, has_table, IsTableIn, HasTable, table_with, tables_after, WantsTable}
use Rattle.vale_parts.specs.SwitchTableLaws.{AllTablesFollow, TablesAreGivenOver, FreshTablesAreAdded}
use Rattle.vale_parts.proofs.OpenPorts.{Keeps, kept-if}
use Rattle.vale_parts.proofs.PairsKept.{name_of}
use Rattle.vale_parts.proofs.TablesKept.{tables_follow, sizes_kept, empty_serve, last_empty, fresh_nothing, fresh_size}

-- ---- tables that are taught keep their switches

any_taught : (switch : List ℕ) (change : SwitchTable → SwitchTable) → ((t : SwitchTable) → (change t).switch ≡ t.switch) → (tables : List SwitchTable) → has_table switch (map change tables) ≡ has_table switch tables
any_taught switch change keeps [] = refl
any_taught switch change keeps (t ∷ ts) =
    ap (λ (s : List ℕ). bytes_eq s switch || has_table switch (map change ts)) (keeps t) ∙ ap (λ (b : Bool). bytes_eq t.switch switch || b) (any_taught switch change keeps ts)

abbrev one_if : Bool → ℕ
one_if b = cond b 1 0

counted : (switch : List ℕ) (t : SwitchTable) (ts : List SwitchTable) → count_by (is_table_of switch) (t ∷ ts) ≡ one_if (bytes_eq t.switch switch) + count_by (is_table_of switch) ts
counted switch t ts = sum_by-cons (λ (x : SwitchTable). one_if (is_table_of switch x)) t ts

count_taught : (switch : List ℕ) (change : SwitchTable → SwitchTable) → ((t : SwitchTable) → (change t).switch ≡ t.switch) → (tables : List SwitchTable) → count_by (is_table_of switch) (map change tables) ≡ count_by (is_table_of switch) tables
count_taught switch change keeps [] = refl
count_taught switch change keeps (t ∷ ts) =
    counted switch (change t) (map change ts)
    ∙ (ap (λ (s : List ℕ). one_if (bytes_eq s switch) + count_by (is_table_of switch) (map change ts)) (keeps t)
    ∙ (ap (λ (n : ℕ). one_if (bytes_eq t.switch switch) + n) (count_taught switch change keeps ts) ∙ sym (counted switch t ts)))

-- ---- each port has its table

named_same : (tables : List SwitchTable) (change : Port → Port) → Keeps name_of change → (port : Port) → HasTable tables port → HasTable tables (change port)
named_same tables change names port has = subst (λ (n : List ℕ). is_switch_port_name n ≡ true → has_table (switch_of n) tables ≡ true) (sym (names port)) has

module _ (s : Standing) (tables : List SwitchTable) (all : Each (HasTable tables) s.world.ports) where
  abbrev w : World
  w = s.world

  abbrev Kept : Entry → Standing → Type 0
  Kept e left = WantsTable e.ask e.reply tables → Each (HasTable tables) left.world.ports

  mapped : (change : Port → Port) → Keeps name_of change → Each (HasTable tables) (map change w.ports)
  mapped change names = each-map (HasTable tables) (HasTable tables) change (named_same tables change names) w.ports all

  changed : (at : ℕ) (change : Port → Port) → Keeps name_of change → Each (HasTable tables) (changed_at at change w.ports)
  changed at change names = mapped (λ (port : Port). changed_if (port.id == at) change port) (λ port. kept-if name_of change names (port.id == at) port)

  kinds : EachKind s (Left s Kept)
  kinds = record {
    enters = λ user fits has. all;
    quiet = λ ask session reply quiet has. all;
    opens = λ session name tx rx extra can refusal has. each-append (HasTable tables) w.ports (opened_port (w.entry_count + 1) session.0 name tx rx extra ∷ []) all (has, tt);
    sends = λ from frames port e can settled has. all;
    grants = λ origin to offer first same has. changed offer.to (port_after_grant (w.entry_count + 1) offer.session (granted_frames w offer)) (λ p. refl);
    completes = λ lease lot e has. mapped (port_after_done lease.0) (λ p. refl);
    receives = λ ask at back port receives e can has. changed port.id (port_after_sync (length back)) (λ p. refl);
    puts = λ at offered items port peer e can found has. changed peer.id (port_after_put (w.entry_count + 1) port.session (frames_of_items items)) (λ p. refl);
    watches = λ at target sides port found e can there none has. all;
    shuts = λ at port e settled has. changed port.id shut (λ p. refl);
    finishes = λ at bufs chain port fits e can out has. each-filter (HasTable tables) (λ (p : Port). not (p.id == port.id)) w.ports all;
    leaves = λ session can has. all;
  }

  pub kept : (e : Entry) → Follows s e → Kept e (after s e)
  kept e follows = follows-by s Kept e follows kinds

pub all_follow : AllTablesFollow
all_follow pool h e tables follows are has =
    let s = standing_of pool h in
    let w = s.world in
    let there : Each (HasTable tables) (world_of pool (h ++ e ∷ [])).ports = subst (λ (t : Standing). Each (HasTable tables) t.world.ports) (sym (standing-push pool h e)) (kept s tables are.there e follows has) in
    record {
      each = each-map (IsTableIn w) (IsTableIn (world_of pool (h ++ e ∷ []))) (table_with w e.ask)
          (λ t is. record { size = sizes_kept w t.switch e.ask t.entries is.size; finds = tables_follow pool h e t.switch t.entries follows is.size is.finds }) tables are.each;
      there = each-weaker (HasTable tables) (HasTable (tables_after w e.ask tables))
          (λ port here named. any_taught (switch_of port.name) (table_with w e.ask) (λ t. refl) tables ∙ here named) (world_of pool (h ++ e ∷ [])).ports there;
      once = λ switch. subst (λ (n : ℕ). n ≤ 1) (sym (count_taught switch (table_with w e.ask) (λ t. refl) tables)) (are.once switch);
    }

-- ---- a switch without ports

-- a port of a switch has the switch's table, so a switch without a table has no port
no_ports : (tables : List SwitchTable) (switch : List ℕ) (ports : List Port) → Each (HasTable tables) ports → has_table switch tables ≡ false → list_any (is_on_switch switch) ports ≡ false
no_ports tables switch [] all none = refl
no_ports tables switch (p ∷ ps) all none = by_port (is_on_switch switch p) refl (no_ports tables switch ps all.1 none)
  where
    by_port : (b : Bool) → is_on_switch switch p ≡ b → list_any (is_on_switch switch) ps ≡ false → (b || list_any (is_on_switch switch) ps) ≡ false
    by_port false t rest = rest
    by_port true t rest =
        let parts = and_parts (is_switch_port_name p.name) (bytes_eq (switch_of p.name) switch) t in
        let same : switch_of p.name ≡ switch = (bytes_eq-Decides (switch_of p.name) switch).0 parts.1 in
        let has : has_table switch tables ≡ true = subst (λ (s : List ℕ). has_table s tables ≡ true) same (all.0 parts.0) in
        let wrong : true ≡ false = sym has ∙ none in
        absurd cc

none_open : (switch : List ℕ) (ports : List Port) → list_any (is_on_switch switch) ports ≡ false → list_any (is_open_on switch) ports ≡ false
none_open switch [] none = refl
none_open switch (p ∷ ps) none =
    let parts = or_parts (is_on_switch switch p) (list_any (is_on_switch switch) ps) none in
    or_from (is_open_on switch p) (list_any (is_open_on switch) ps) (and_right (not p.shutting) (is_on_switch switch p) parts.0) (none_open switch ps parts.1)

-- another table that is left
left_by : (switch : List ℕ) (tables : List SwitchTable) (place : ℕ) (old new : SwitchTable) → slice_get tables place ≡ Some old → bytes_eq old.switch switch ≡ false → has_table switch tables ≡ true
    → has_table switch (slice_set tables place new) ≡ true
left_by switch [] place old new here other has = absurd cc
left_by switch (t ∷ ts) zero old new here other has =
    let same : t ≡ old = cc in
    let miss : bytes_eq t.switch switch ≡ false = ap (λ (x : SwitchTable). bytes_eq x.switch switch) same ∙ other in
    or_right (bytes_eq new.switch switch) (has_table switch ts) (subst (λ (b : Bool). (b || has_table switch ts) ≡ true) miss has)
left_by switch (t ∷ ts) (suc place) old new here other has = by_table (bytes_eq t.switch switch) (left_by switch ts place old new here other) has
  where
    by_table : (b : Bool) → (has_table switch ts ≡ true → has_table switch (slice_set ts place new) ≡ true) → (b || has_table switch ts) ≡ true → (b || has_table switch (slice_set ts place new)) ≡ true
    by_table true rest has = refl
    by_table false rest has = rest has

none_counted : (switch : List ℕ) (tables : List SwitchTable) → has_table switch tables ≡ false → count_by (is_table_of switch) tables ≡ 0
none_counted switch [] none = refl
none_counted switch (t ∷ ts) none =
    let parts = or_parts (bytes_eq t.switch switch) (has_table switch ts) none in
    counted switch t ts ∙ (ap (λ (b : Bool). one_if b + count_by (is_table_of switch) ts) parts.0 ∙ (zero_more (count_by (is_table_of switch) ts) ∙ none_counted switch ts parts.1))
  where
    zero_more : (n : ℕ) → 0 + n ≡ n
    zero_more n = omega arith

one_at_most : (b : Bool) → one_if b ≤ 1
one_at_most true = omega arith
one_at_most false = omega arith

turned : (a b c : ℕ) → a + b ≡ c → b + a ≡ c
turned a b c e = omega (arith, e)

with_none : (a b : ℕ) → a ≡ b → 0 + a ≡ b
with_none a b e = omega (arith, e)

-- a switch that had no table has one at most where the tables of a name are as many as before, and
-- one more of this switch
one-counted : (switch : List ℕ) (tables : List SwitchTable) (wanted : List ℕ) (n rest : ℕ) → has_table switch tables ≡ false
    → count_by (is_table_of wanted) tables ≤ 1 → (b : Bool) → bytes_eq switch wanted ≡ b
    → rest + n ≡ count_by (is_table_of wanted) tables + one_if (bytes_eq switch wanted) → n ≤ 1
one-counted switch tables wanted n rest none once true t sum =
    let same : switch ≡ wanted = (bytes_eq-Decides switch wanted).0 t in
    let zero_before = none_counted wanted tables (subst (λ (s : List ℕ). has_table s tables ≡ false) same none) in
    let one = one_at_most (bytes_eq switch wanted) in
    omega (arith, sum, zero_before, one)
one-counted switch tables wanted n rest none once false t sum =
    let none_more : one_if (bytes_eq switch wanted) ≡ 0 = ap one_if t in
    omega (arith, sum, once, none_more)

pub given_over : TablesAreGivenOver
given_over pool h tables place table switch are here vacant none =
    let w = world_of pool h in
    let new : SwitchTable = record table { switch = switch } in
    let old = each-at (IsTableIn w) tables place table are.each here in
    let nothing = last_empty pool h table.switch table.entries (none_open table.switch w.ports vacant) old.finds in
    let unused = no_ports tables switch w.ports are.there none in
    let serves = empty_serve pool h switch table.entries (none_open switch w.ports unused) nothing in
    record {
      each = each-set (IsTableIn w) tables place new are.each (record { size = old.size; finds = serves });
      there = each-both (HasTable tables) (λ (p : Port). is_on_switch table.switch p ≡ false) (HasTable (slice_set tables place new))
          (λ port has off named.
          let other : bytes_eq table.switch (switch_of port.name) ≡ false = false_from_ne_true (bytes_eq table.switch (switch_of port.name)) (λ t.
          let same : switch_of port.name ≡ table.switch = sym ((bytes_eq-Decides table.switch (switch_of port.name)).0 t) in
          let on : is_on_switch table.switch port ≡ true = and_from (is_switch_port_name port.name) (bytes_eq (switch_of port.name) table.switch) named ((bytes_eq-Decides (switch_of port.name) table.switch).1 same) in
          let wrong : true ≡ false = sym on ∙ off in
          cc) in
          left_by (switch_of port.name) tables place table new here other (has named)) w.ports are.there (each-none (is_on_switch table.switch) w.ports vacant);
      once = λ wanted.
          let sum = sum-set (λ (x : SwitchTable). one_if (is_table_of wanted x)) tables place table new here in
          one-counted switch tables wanted _ (one_if (bytes_eq table.switch wanted)) none (are.once wanted) (bytes_eq switch wanted) refl (turned _ _ _ sum);
    }

pub fresh_added : FreshTablesAreAdded
fresh_added pool h tables switch are none =
    let w = world_of pool h in
    let new : SwitchTable = record { switch = switch; entries = no_stations } in
    let unused = no_ports tables switch w.ports are.there none in
    let serves = empty_serve pool h switch no_stations (none_open switch w.ports unused) fresh_nothing in
    record {
      each = each-append (IsTableIn w) tables (new ∷ []) are.each (record { size = fresh_size; finds = serves }, tt);
      there = each-weaker (HasTable tables) (HasTable (tables ++ new ∷ [])) (λ port has named. any-append_left (is_table_of (switch_of port.name)) tables (new ∷ []) (has named)) w.ports are.there;
      once = λ wanted.
          let sum = sum_by_push (λ (x : SwitchTable). one_if (is_table_of wanted x)) tables new in
          one-counted switch tables wanted _ 0 none (are.once wanted) (bytes_eq switch wanted) refl (with_none _ _ sum);
    }
