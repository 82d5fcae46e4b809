-- There are no more tables than a book may have switches.
use Rattle.std.proofs.Common.{ℕ, Bool, true, false, cond, not, ◌≡◌, ◌≤◌, ◌<◌, ◌+◌, ◌||◌, ◌&&◌, nat_le, List, [], ◌∷◌, ◌++◌, length, map, filter, count_by, slice_set, None, refl, sym, ◌∙◌, subst, arith, bytes_eq, length-append}
use Rattle.std.specs.Prelude.{position}
use Rattle.std.specs.List.{AllByRecursion as Each, list_any}
use Rattle.std.proofs.lemmas.Bool.{and_parts, or_parts, leb-false}
use Rattle.std.proofs.lemmas.List.{length-map, length-set}
use Rattle.std.proofs.lemmas.List.Sums.{sum_by-cons}
use Rattle.std.proofs.lemmas.Slice.Eq.{bytes_eq-Decides}
use Rattle.nm_types.specs.Limits.{most_switches}
use Rattle.nm_types.specs.Names.{switch_of, is_switch_port_name}
use Rattle.vale_names.proofs.SwitchLemmas.{position_none}
use Rattle.vale_entry.specs.World.{Port}
use Rattle.nm_types.specs.Openings.{is_on_switch as is_name_on, switches_of}
use Rattle.vale_entry.specs.Opening.{is_on_switch, names_of}
use Rattle.vale_entry.specs.Legal.{world_of}
use Rattle.vale_entry.proofs.Removals.{sum-filter_less}
use Rattle.vale_port.specs.Ports.{PortState}
use Rattle.vale_parts.specs.SwitchTables.{SwitchTable, is_table_of, has_table, HasTable}
use Rattle.vale_steps.specs.declared.tables.NamedTable.{NamedTable}
use Rattle.vale_steps.specs.NamedTables.{table_seen}
use Rattle.vale_steps.specs.OpenParts.{is_port_on, is_vacant, name_of_state, name_of_port, StillFew}
use Rattle.vale_steps.proofs.NamedTables.{any-map}
use Rattle.vale_steps.proofs.OpenTables.{used-same}

-- ---- Each switch with a table has a port, and one table: so there are as many switches.

abbrev IsUsed : List Port → SwitchTable → Type 0
IsUsed ports table = list_any (is_on_switch table.switch) ports ≡ true

abbrev AreSingle : List SwitchTable → Type 0
AreSingle tables = (switch : List ℕ) → count_by (is_table_of switch) tables ≤ 1

abbrev is_other : List ℕ → SwitchTable → Bool
is_other switch table = not (is_table_of switch table)

abbrev one_if : Bool → ℕ
one_if b = cond b 1 0

counted : (switch : List ℕ) (t : SwitchTable) (ts : List SwitchTable) → count_by (is_table_of switch) (t ∷ ts) ≡ one_if (is_table_of switch t) + count_by (is_table_of switch) ts
counted switch t ts = sum_by-cons (λ (x : SwitchTable). one_if (is_table_of switch x)) t ts

count-others : (switch : List ℕ) (tables : List SwitchTable) → length (filter (is_other switch) tables) + count_by (is_table_of switch) tables ≡ length tables
count-others switch [] = refl
count-others switch (t ∷ ts) = by_table (is_table_of switch t) (counted switch t ts) (count-others switch ts)
  where
    by_table : (b : Bool) → count_by (is_table_of switch) (t ∷ ts) ≡ one_if b + count_by (is_table_of switch) ts
        → length (filter (is_other switch) ts) + count_by (is_table_of switch) ts ≡ length ts
        → length (cond (not b) (t ∷ filter (is_other switch) ts) (filter (is_other switch) ts)) + count_by (is_table_of switch) (t ∷ ts) ≡ length (t ∷ ts)
    by_table true sum rest = omega (arith, sum, rest)
    by_table false sum rest = omega (arith, sum, rest)

-- a table whose switch has another port than this one
used-left : (p : Port) (ps : List Port) (t : SwitchTable) → (is_on_switch t.switch p ≡ true → IsUsed ps t) → IsUsed (p ∷ ps) t → IsUsed ps t
used-left p ps t others used = by_port (is_on_switch t.switch p) refl used
  where
    by_port : (b : Bool) → is_on_switch t.switch p ≡ b → (b || list_any (is_on_switch t.switch) ps) ≡ true → IsUsed ps t
    by_port true is used = others is
    by_port false is used = used

others-used : (p : Port) (ps : List Port) (tables : List SwitchTable) → Each (IsUsed (p ∷ ps)) tables → Each (IsUsed ps) (filter (is_other (switch_of p.name)) tables)
others-used p ps [] used = tt
others-used p ps (t ∷ ts) used = by_table (is_table_of (switch_of p.name) t) refl (others-used p ps ts used.1)
  where
    by_table : (b : Bool) → is_table_of (switch_of p.name) t ≡ b → Each (IsUsed ps) (filter (is_other (switch_of p.name)) ts)
        → Each (IsUsed ps) (cond (not b) (t ∷ filter (is_other (switch_of p.name)) ts) (filter (is_other (switch_of p.name)) ts))
    by_table true is rest = rest
    by_table false is rest = (
      used-left p ps t (λ on.
          let same : switch_of p.name ≡ t.switch = (bytes_eq-Decides (switch_of p.name) t.switch).0 (and_parts (is_switch_port_name p.name) (bytes_eq (switch_of p.name) t.switch) on).1 in
          let own : is_table_of (switch_of p.name) t ≡ true = (bytes_eq-Decides t.switch (switch_of p.name)).1 (sym same) in
          let wrong : true ≡ false = sym own ∙ is in
          absurd cc) used.0,
      rest,
    )

all-left : (p : Port) (ps : List Port) → ((t : SwitchTable) → is_on_switch t.switch p ≡ true → IsUsed ps t) → (tables : List SwitchTable) → Each (IsUsed (p ∷ ps)) tables → Each (IsUsed ps) tables
all-left p ps others [] used = tt
all-left p ps others (t ∷ ts) used = (used-left p ps t (others t) used.0, all-left p ps others ts used.1)

few-step : (p : Port) (ps : List Port) → ((tables : List SwitchTable) → Each (IsUsed ps) tables → AreSingle tables → length tables ≤ length (switches_of (names_of ps)))
    → (tables : List SwitchTable) → Each (IsUsed (p ∷ ps)) tables → AreSingle tables
    → (named : Bool) → is_switch_port_name p.name ≡ named → (more : Bool) → list_any (is_on_switch (switch_of p.name)) ps ≡ more
    → length tables ≤ length (cond (named && not more) (p.name ∷ switches_of (names_of ps)) (switches_of (names_of ps)))
few-step p ps rest tables used single false off more any =
    rest tables (all-left p ps (λ t on. let wrong : true ≡ false = sym (and_parts (is_switch_port_name p.name) (bytes_eq (switch_of p.name) t.switch) on).0 ∙ off in absurd cc) tables used) single
few-step p ps rest tables used single true named true any =
    rest tables (all-left p ps (λ t on.
    let same : switch_of p.name ≡ t.switch = (bytes_eq-Decides (switch_of p.name) t.switch).0 (and_parts (is_switch_port_name p.name) (bytes_eq (switch_of p.name) t.switch) on).1 in
    subst (λ (s : List ℕ). list_any (is_on_switch s) ps ≡ true) same any) tables used) single
few-step p ps rest tables used single true named false none =
    let switch = switch_of p.name in
    let others = filter (is_other switch) tables in
    let fewer : AreSingle others = λ wanted.
    let less = sum-filter_less (λ (t : SwitchTable). one_if (is_table_of wanted t)) (is_other switch) tables in
    let one = single wanted in
    omega (arith, less, one) in
    let few = rest others (others-used p ps tables used) fewer in
    let all = count-others switch tables in
    let own = single switch in
    omega (arith, few, all, own)

few-tables : (ports : List Port) (tables : List SwitchTable) → Each (IsUsed ports) tables → AreSingle tables → length tables ≤ length (switches_of (names_of ports))
few-tables [] [] used single = omega arith
few-tables [] (t ∷ ts) used single = let wrong : false ≡ true = used.0 in absurd cc
few-tables (p ∷ ps) tables used single =
    few-step p ps (λ ts u s. few-tables ps ts u s) tables used single (is_switch_port_name p.name) refl (list_any (is_name_on (switch_of p.name)) (names_of ps)) (sym (any-map (is_name_on (switch_of p.name)) name_of_port ps))

-- ---- A switch without a table has no port.

no-port : (tables : List SwitchTable) (switch : List ℕ) (ports : List Port) → Each (HasTable tables) ports → has_table switch tables ≡ false → list_any (is_on_switch switch) ports ≡ false
no-port tables switch [] all none = refl
no-port tables switch (p ∷ ps) all none = by_port (is_on_switch switch p) refl (no-port tables switch ps all.1 none)
  where
    by_port : (b : Bool) → is_on_switch switch p ≡ b → list_any (is_on_switch switch) ps ≡ false → (b || list_any (is_on_switch switch) ps) ≡ false
    by_port false off rest = rest
    by_port true on rest =
        let parts = and_parts (is_switch_port_name p.name) (bytes_eq (switch_of p.name) switch) on in
        let has = subst (λ (s : List ℕ). has_table s tables ≡ true) ((bytes_eq-Decides (switch_of p.name) switch).0 parts.1) (all.0 parts.0) in
        let wrong : true ≡ false = sym has ∙ none in
        absurd cc

-- ---- So a table more, where none is vacant, is one of a book's switches.

not-full : (ports : List Port) (name : List ℕ) (named any : Bool) → is_switch_port_name name ≡ named → list_any (is_name_on (switch_of name)) (names_of ports) ≡ any
    → named ≡ true → any ≡ false → (named && (not any && nat_le most_switches (length (switches_of (names_of ports))))) ≡ false → length (switches_of (names_of ports)) < most_switches
not-full ports name true false is none on off left = leb-false most_switches (length (switches_of (names_of ports))) left
not-full ports name true true is none on off left = absurd cc
not-full ports name false any is none on off left = absurd cc

all-used : (ps : List PortState) (ports : List Port) (tables : List NamedTable) → map name_of_state ps ≡ map name_of_port ports → list_any (is_vacant ps) tables ≡ false
    → Each (IsUsed ports) (map table_seen tables)
all-used ps ports [] same none = tt
all-used ps ports (t ∷ ts) same none =
    let parts = or_parts (is_vacant ps t) (list_any (is_vacant ps) ts) none in
    (sym (used-same (switch_of t.label) ps ports same) ∙ by_used (list_any (is_port_on (switch_of t.label)) ps) parts.0, all-used ps ports ts same parts.1)
  where
    by_used : (b : Bool) → not b ≡ false → b ≡ true
    by_used true is = refl
    by_used false is = absurd cc

pub added-few : (name : List ℕ) (ps : List PortState) (tables : List NamedTable) (new : NamedTable) → is_switch_port_name name ≡ true → position (is_vacant ps) tables ≡ None
    → has_table (switch_of name) (map table_seen tables) ≡ false → StillFew name ps tables (tables ++ new ∷ [])
added-few name ps tables new named vacant none = λ pool h same are left few.
    let ports = (world_of pool h).ports in
    let used = all-used ps ports tables same (position_none (is_vacant ps) tables vacant) in
    let most = few-tables ports (map table_seen tables) used are.once in
    let off = no-port (map table_seen tables) (switch_of name) ports are.there none in
    let room = not-full ports name (is_switch_port_name name) (list_any (is_name_on (switch_of name)) (names_of ports)) refl refl named (any-map (is_name_on (switch_of name)) name_of_port ports ∙ off) left in
    let count = length-map tables table_seen in
    let all = length-append tables (new ∷ []) in
    omega (arith, most, room, count, all)

pub given-few : (name : List ℕ) (ps : List PortState) (tables : List NamedTable) (at : ℕ) (table : NamedTable) → StillFew name ps tables (slice_set tables at table)
given-few name ps tables at table = λ pool h same are left few. let size = length-set tables at table in omega (arith, size, few)
