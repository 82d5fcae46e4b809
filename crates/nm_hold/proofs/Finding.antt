-- The table of a port, found in its row.
use Rattle.std.proofs.Common.{ℕ, zero, suc, ◌≡◌, ◌≢◌, ◌<◌, ◌≤◌, true, false, nat_eq, if◌then◌else◌, List, [], ◌∷◌, ◌++◌, length, map, find, get_or, slice_set, Option, Some, None, inl, inr, refl, sym, ◌∙◌, ap, subst, arith}
use Rattle.std.specs.Prelude.{All, IfSome, option_map, is_some}
use Rattle.std.specs.List.{AllByRecursion}
use Rattle.std.specs.Option.{option_map_or}
use Rattle.std.proofs.lemmas.Bool.{cases_Bool}
use Rattle.std.proofs.lemmas.Bool.Decides.{nat_tests}
use Rattle.std.proofs.lemmas.List.{get_or_read, get_or-set_same, get_or-set_other, set-set}
use Rattle.std.proofs.lemmas.List.Elements.{recursion_from_All}
use Rattle.std.proofs.lemmas.Option.{same_Some}
use Rattle.nm_types.specs.declared.place.Place.{Place}
use Rattle.nm_types.proofs.Tests.{turned, same_true, or_second, true_false}
use Rattle.nm_hold.specs.declared.table.PortTable.{PortTable}
use Rattle.nm_hold.specs.Offsets.{offset_of, has_place, has_port, ArePortsOnce}
use Rattle.nm_hold.specs.Holds.{port_of}
use Rattle.nm_hold.specs.Tables.{IsTable, ports_of, number_in, number_at, put_in}
use Rattle.nm_hold.specs.Indexed.{tables_present, row_at, port_in, port_at, number_in_row, IsIndexed, AreKeys}
use Rattle.nm_hold.proofs.Spots.{nat_eq-is, offset-port}
use Rattle.nm_hold.proofs.Numbers.{without}

none_some : {X : Type 0} (n : ℕ) → None ≡ Some n → X
none_some n e = cc

nat_eq-differs : (a b : ℕ) → a ≢ b → nat_eq a b ≡ false
nat_eq-differs a b e = grind (arith, nat_tests)

apart_from : (a b : ℕ) → nat_eq a b ≡ false → a ≢ b
apart_from a b e f = true_false (sym (same_true a b f) ∙ e)

-- what is read at a row
pub row_read : (rows : List (Option PortTable)) (at : ℕ) (row : Option PortTable) → at < length rows → row ≡ get_or rows at row → row ≡ row_at rows at
row_read rows at row h e = get_or_read rows at row h e None

pub within_rows : (rows : List (Option PortTable)) (at port : ℕ) → port_at rows at ≡ Some port → at < length rows
within_rows [] at port e = none_some port e
within_rows (s ∷ rows) zero port e = omega arith
within_rows (s ∷ rows) (suc at) port e = omega (arith, within_rows rows at port e)

-- no port has two rows
abbrev pub AreApart : List (Option PortTable) → Type 0
AreApart rows = (at other port : ℕ) → port_at rows at ≡ Some port → port_at rows other ≡ Some port → at ≡ other

pub row_within : (rows : List (Option PortTable)) (index : ℕ → Option ℕ) (at port : ℕ) → IsIndexed rows index → index port ≡ Some at → at < length rows
row_within rows index at port is found = within_rows rows at port (is.there at port found)

pub apart-indexed : (rows : List (Option PortTable)) (index : ℕ → Option ℕ) → IsIndexed rows index → AreApart rows
apart-indexed rows index is at other port e f = same_Some at other (sym (is.found at port e) ∙ is.found other port f)

tail_apart : (s : Option PortTable) (rows : List (Option PortTable)) → AreApart (s ∷ rows) → AreApart rows
tail_apart s rows apart at other port e f = let next : suc at ≡ suc other = apart (suc at) (suc other) port e f in omega (arith, next)

-- a row has the port exactly where it is among those present
pub port-there : (rows : List (Option PortTable)) (at port : ℕ) → port_at rows at ≡ Some port → has_port (ports_of (tables_present rows)) port ≡ true
port-there [] at port e = none_some port e
port-there (None ∷ rows) zero port e = none_some port e
port-there (None ∷ rows) (suc at) port e = port-there rows at port e
port-there (Some t ∷ rows) zero port e = rw (same_true t.places.port.0 port (same_Some t.places.port.0 port e)) refl
port-there (Some t ∷ rows) (suc at) port e = or_second (nat_eq t.places.port.0 port) (has_port (ports_of (tables_present rows)) port) (port-there rows at port e)

pub row-there : (rows : List (Option PortTable)) (port : ℕ) → has_port (ports_of (tables_present rows)) port ≡ true → (at : ℕ) × (port_at rows at ≡ Some port)
row-there [] port has = cc
row-there (None ∷ rows) port has = let rest = row-there rows port has in (suc rest.0, rest.1)
row-there (Some t ∷ rows) port has = elim (cases_Bool (nat_eq t.places.port.0 port)) [
  | inl same ↦ (0, ap (λ (n : ℕ). Some n) (nat_eq-is t.places.port.0 port same))
  | inr differs ↦ (let rest = row-there rows port (rw differs at has) in (suc rest.0, rest.1))
]

pub once-apart : (rows : List (Option PortTable)) → AreApart rows → ArePortsOnce (ports_of (tables_present rows))
once-apart [] apart = tt
once-apart (None ∷ rows) apart = once-apart rows (tail_apart None rows apart)
once-apart (Some t ∷ rows) apart = (
  elim (cases_Bool (has_port (ports_of (tables_present rows)) t.places.port.0)) [
    | inl has ↦ (let there = row-there rows t.places.port.0 has in let same : 0 ≡ suc there.0 = apart 0 (suc there.0) t.places.port.0 refl there.1 in absurd (omega (arith, same)))
    | inr none ↦ none
  ],
  once-apart rows (tail_apart (Some t) rows apart),
)

pub apart-once : (rows : List (Option PortTable)) → ArePortsOnce (ports_of (tables_present rows)) → AreApart rows
apart-once [] once at other port e f = none_some port e
apart-once (None ∷ rows) once zero other port e f = none_some port e
apart-once (None ∷ rows) once (suc at) zero port e f = none_some port f
apart-once (None ∷ rows) once (suc at) (suc other) port e f = ap suc (apart-once rows once at other port e f)
apart-once (Some t ∷ rows) once zero zero port e f = refl
apart-once (Some t ∷ rows) once zero (suc other) port e f =
    let same : t.places.port.0 ≡ port = same_Some t.places.port.0 port e in
    true_false (sym (port-there rows other port f) ∙ (ap (has_port (ports_of (tables_present rows))) (sym same) ∙ once.0))
apart-once (Some t ∷ rows) once (suc at) zero port e f =
    let same : t.places.port.0 ≡ port = same_Some t.places.port.0 port f in
    true_false (sym (port-there rows at port e) ∙ (ap (has_port (ports_of (tables_present rows))) (sym same) ∙ once.0))
apart-once (Some t ∷ rows) once (suc at) (suc other) port e f = ap suc (apart-once rows once.1 at other port e f)

-- the numbers that are found are those of the ports
pub keys-indexed : (rows : List (Option PortTable)) (index : ℕ → Option ℕ) → IsIndexed rows index → AreKeys rows index
keys-indexed rows index is = record { once = once-apart rows (apart-indexed rows index is); known = λ port. by_index port (index port) refl }
  where
    by_index : (port : ℕ) (o : Option ℕ) → index port ≡ o → is_some (index port) ≡ has_port (ports_of (tables_present rows)) port
    by_index port (Some at) e = rw e (sym (port-there rows at port (is.there at port e)))
    by_index port None e = elim (cases_Bool (has_port (ports_of (tables_present rows)) port)) [
      | inl has ↦ (let there = row-there rows port has in none_some there.0 (sym e ∙ is.found there.0 port there.1))
      | inr none ↦ rw (e, none) refl
    ]

-- the table of a port
pub find-row : (rows : List (Option PortTable)) (at port : ℕ) → AreApart rows → port_at rows at ≡ Some port → find (λ (t : PortTable). nat_eq t.places.port.0 port) (tables_present rows) ≡ row_at rows at
find-row [] at port apart e = none_some port e
find-row (None ∷ rows) zero port apart e = none_some port e
find-row (None ∷ rows) (suc at) port apart e = find-row rows at port (tail_apart None rows apart) e
find-row (Some t ∷ rows) zero port apart e = rw (same_true t.places.port.0 port (same_Some t.places.port.0 port e)) refl
find-row (Some t ∷ rows) (suc at) port apart e =
    let differ : t.places.port.0 ≢ port = (λ (same : t.places.port.0 ≡ port). let first : 0 ≡ suc at = apart 0 (suc at) port (ap (λ (n : ℕ). Some n) same) e in absurd (omega (arith, first))) in
    rw (nat_eq-differs t.places.port.0 port differ) (find-row rows at port (tail_apart (Some t) rows apart) e)

pub find-none : (rows : List (Option PortTable)) (port : ℕ) → has_port (ports_of (tables_present rows)) port ≡ false → find (λ (t : PortTable). nat_eq t.places.port.0 port) (tables_present rows) ≡ None
find-none rows port none = over (tables_present rows) none
  where
    over : (tables : List PortTable) → has_port (ports_of tables) port ≡ false → find (λ (t : PortTable). nat_eq t.places.port.0 port) tables ≡ None
    over [] none = refl
    over (t ∷ tables) none = elim (cases_Bool (nat_eq t.places.port.0 port)) [
      | inl same ↦ true_false (sym (rw same refl) ∙ none)
      | inr differs ↦ rw differs (over tables (rw differs at none))
    ]

pub no_index : (rows : List (Option PortTable)) (index : ℕ → Option ℕ) (port : ℕ) → IsIndexed rows index → index port ≡ None → has_port (ports_of (tables_present rows)) port ≡ false
no_index rows index port is e = let keys = keys-indexed rows index is in sym (keys.known port) ∙ ap is_some e

-- the number at a place is in the table of its port
number-absent : (tables : List PortTable) (place : Place) → has_port (ports_of tables) (port_of place) ≡ false → number_at tables place ≡ 0
number-absent [] place none = refl
number-absent (t ∷ tables) place none = by_offset (offset_of t.places place) refl (number-absent tables place)
  where
    by_offset : (o : Option ℕ) → offset_of t.places place ≡ o → (has_port (ports_of tables) (port_of place) ≡ false → number_at tables place ≡ 0) → number_at (t ∷ tables) place ≡ 0
    by_offset (Some at) e rest =
        let same : nat_eq t.places.port.0 (port_of place) ≡ true = same_true t.places.port.0 (port_of place) (sym (offset-port t.places place at e)) in
        true_false (sym (rw same refl) ∙ none)
    by_offset None e rest = elim (cases_Bool (nat_eq t.places.port.0 (port_of place))) [
      | inl same ↦ true_false (sym (rw same refl) ∙ none)
      | inr differs ↦ rw e (rest (rw differs at none))
    ]

pub number-found : (tables : List PortTable) (place : Place) → ArePortsOnce (ports_of tables)
    → number_at tables place ≡ option_map_or (λ (t : PortTable). number_in t place) (find (λ (t : PortTable). nat_eq t.places.port.0 (port_of place)) tables) 0
number-found [] place once = refl
number-found (t ∷ tables) place once = by_offset (offset_of t.places place) refl (number-found tables place once.1)
  where
    by_offset : (o : Option ℕ) → offset_of t.places place ≡ o → number_at tables place ≡ option_map_or (λ (t : PortTable). number_in t place) (find (λ (t : PortTable). nat_eq t.places.port.0 (port_of place)) tables) 0
        → number_at (t ∷ tables) place ≡ option_map_or (λ (t : PortTable). number_in t place) (find (λ (t : PortTable). nat_eq t.places.port.0 (port_of place)) (t ∷ tables)) 0
    by_offset (Some at) e rest =
        let same : nat_eq t.places.port.0 (port_of place) ≡ true = same_true t.places.port.0 (port_of place) (sym (offset-port t.places place at e)) in
        rw (same, e) refl
    by_offset None e rest = elim (cases_Bool (nat_eq t.places.port.0 (port_of place))) [
      | inl same ↦ (let none : has_port (ports_of tables) (port_of place) ≡ false = ap (has_port (ports_of tables)) (sym (nat_eq-is t.places.port.0 (port_of place) same)) ∙ once.0 in
          rw (same, e) (number-absent tables place none))
      | inr differs ↦ rw (differs, e) rest
    ]

-- a number put at a place changes the table of its port alone
put-apart : (place : Place) (number : ℕ) (t : PortTable) → t.places.port.0 ≢ port_of place → put_in place number t ≡ t
put-apart place number t differ = by_offset (offset_of t.places place) refl
  where
    by_offset : (o : Option ℕ) → offset_of t.places place ≡ o → put_in place number t ≡ t
    by_offset (Some at) e = absurd (differ (sym (offset-port t.places place at e)))
    by_offset None e = rw e refl

put-port : (place : Place) (number : ℕ) (row : Option PortTable) → port_in (option_map (put_in place number) row) ≡ port_in row
put-port place number None = refl
put-port place number (Some t) = by_offset (offset_of t.places place) refl
  where
    by_offset : (o : Option ℕ) → offset_of t.places place ≡ o → port_in (Some (put_in place number t)) ≡ port_in (Some t)
    by_offset (Some at) e = rw e refl
    by_offset None e = rw e refl

pub put-absent : (rows : List (Option PortTable)) (place : Place) (number : ℕ) → has_port (ports_of (tables_present rows)) (port_of place) ≡ false → map (put_in place number) (tables_present rows) ≡ tables_present rows
put-absent rows place number none = over (tables_present rows) none
  where
    over : (tables : List PortTable) → has_port (ports_of tables) (port_of place) ≡ false → map (put_in place number) tables ≡ tables
    over [] none = refl
    over (t ∷ tables) none = elim (cases_Bool (nat_eq t.places.port.0 (port_of place))) [
      | inl same ↦ true_false (sym (rw same refl) ∙ none)
      | inr differs ↦ (let first = put-apart place number t (apart_from t.places.port.0 (port_of place) differs) in
          let rest = over tables (rw differs at none) in cc)
    ]

pub put-row : (rows : List (Option PortTable)) (at : ℕ) (place : Place) (number : ℕ) → AreApart rows → port_at rows at ≡ Some (port_of place)
    → map (put_in place number) (tables_present rows) ≡ tables_present (slice_set rows at (option_map (put_in place number) (row_at rows at)))
put-row [] at place number apart e = none_some (port_of place) e
put-row (None ∷ rows) zero place number apart e = none_some (port_of place) e
put-row (None ∷ rows) (suc at) place number apart e = put-row rows at place number (tail_apart None rows apart) e
put-row (Some t ∷ rows) zero place number apart e =
    let once = once-apart (Some t ∷ rows) apart in
    let same : t.places.port.0 ≡ port_of place = same_Some t.places.port.0 (port_of place) e in
    let none : has_port (ports_of (tables_present rows)) (port_of place) ≡ false = ap (has_port (ports_of (tables_present rows))) (sym same) ∙ once.0 in
    ap (λ (ts : List PortTable). put_in place number t ∷ ts) (put-absent rows place number none)
put-row (Some t ∷ rows) (suc at) place number apart e =
    let differ : t.places.port.0 ≢ port_of place = (λ (same : t.places.port.0 ≡ port_of place).
    let first : 0 ≡ suc at = apart 0 (suc at) (port_of place) (ap (λ (n : ℕ). Some n) same) e in absurd (omega (arith, first))) in
    let first = put-apart place number t differ in
    let rest = put-row rows at place number (tail_apart (Some t) rows apart) e in
    cc

-- rows with the same ports
indexed-same : (rows new : List (Option PortTable)) (index : ℕ → Option ℕ) → IsIndexed rows index → ((at : ℕ) → port_at new at ≡ port_at rows at) → IsIndexed new index
indexed-same rows new index is same = record {
  found = λ at port e. is.found at port (sym (same at) ∙ e);
  there = λ at port e. same at ∙ is.there at port e;
}

pub indexed-put : (rows : List (Option PortTable)) (index : ℕ → Option ℕ) (at : ℕ) (place : Place) (number : ℕ) → IsIndexed rows index
    → IsIndexed (slice_set rows at (option_map (put_in place number) (row_at rows at))) index
indexed-put rows index at place number is = indexed-same rows (slice_set rows at (option_map (put_in place number) (row_at rows at))) index is (λ other. same rows at other)
  where
    same : (rows : List (Option PortTable)) (at other : ℕ) → port_at (slice_set rows at (option_map (put_in place number) (row_at rows at))) other ≡ port_at rows other
    same [] at other = refl
    same (s ∷ rows) zero zero = put-port place number s
    same (s ∷ rows) zero (suc other) = refl
    same (s ∷ rows) (suc at) zero = refl
    same (s ∷ rows) (suc at) (suc other) = same rows at other

-- two numbers put at places of one port
pub put-rows : (rows : List (Option PortTable)) (index : ℕ → Option ℕ) (at : ℕ) (place other : Place) (number was : ℕ) → IsIndexed rows index → index (port_of place) ≡ Some at → port_of place ≡ port_of other
    → IsIndexed (slice_set rows at (option_map (put_in other was) (option_map (put_in place number) (row_at rows at)))) index
    × (map (put_in other was) (map (put_in place number) (tables_present rows)) ≡ tables_present (slice_set rows at (option_map (put_in other was) (option_map (put_in place number) (row_at rows at)))))
put-rows rows index at place other number was is found same =
    let there : port_at rows at ≡ Some (port_of place) = is.there at (port_of place) found in
    let within = within_rows rows at (port_of place) there in
    let row = option_map (put_in place number) (row_at rows at) in
    let between = slice_set rows at row in
    let indexed : IsIndexed between index = indexed-put rows index at place number is in
    let still : row_at between at ≡ row = get_or-set_same rows at row None within in
    let one : slice_set between at (option_map (put_in other was) (row_at between at)) ≡ slice_set rows at (option_map (put_in other was) row) =
    ap (λ (r : Option PortTable). slice_set between at (option_map (put_in other was) r)) still ∙ set-set rows at row (option_map (put_in other was) row) in
    let first = put-row rows at place number (apart-indexed rows index is) there in
    let second = put-row between at other was (apart-indexed between index indexed) (indexed.there at (port_of other) (ap index (sym same) ∙ found)) in (
      subst (λ (new : List (Option PortTable)). IsIndexed new index) one (indexed-put between index at other was indexed),
      ap (map (put_in other was)) first ∙ (second ∙ ap tables_present one),
    )

pub put-none : (rows : List (Option PortTable)) (index : ℕ → Option ℕ) (place other : Place) (number was : ℕ) → IsIndexed rows index → index (port_of place) ≡ None → port_of place ≡ port_of other
    → map (put_in other was) (map (put_in place number) (tables_present rows)) ≡ tables_present rows
put-none rows index place other number was is none same =
    let first = put-absent rows place number (no_index rows index (port_of place) is none) in
    let second = put-absent rows other was (no_index rows index (port_of other) is (ap index (sym same) ∙ none)) in
    ap (map (put_in other was)) first ∙ second

-- the number at a place, in the row of its port
pub number-row : (rows : List (Option PortTable)) (index : ℕ → Option ℕ) (at : ℕ) (place : Place) → IsIndexed rows index → index (port_of place) ≡ Some at → number_in_row (row_at rows at) place ≡ number_at (tables_present rows) place
number-row rows index at place is found =
    let apart = apart-indexed rows index is in
    let row = find-row rows at (port_of place) apart (is.there at (port_of place) found) in
    ap (λ (o : Option PortTable). number_in_row o place) (sym row) ∙ sym (number-found (tables_present rows) place (once-apart rows apart))

pub number-read : (rows : List (Option PortTable)) (index : ℕ → Option ℕ) (at : ℕ) (place : Place) (row : Option PortTable) → IsIndexed rows index → index (port_of place) ≡ Some at → row ≡ row_at rows at
    → number_in_row row place ≡ number_at (tables_present rows) place
number-read rows index at place row is found read = ap (λ (o : Option PortTable). number_in_row o place) read ∙ number-row rows index at place is found

pub number-none : (rows : List (Option PortTable)) (index : ℕ → Option ℕ) (place : Place) → IsIndexed rows index → index (port_of place) ≡ None → number_at (tables_present rows) place ≡ 0
number-none rows index place is none = number-absent (tables_present rows) place (no_index rows index (port_of place) is none)

-- a place that is some port's is a place of the row of its port
place-port : (tables : List PortTable) (place : Place) → has_place (ports_of tables) place ≡ true → has_port (ports_of tables) (port_of place) ≡ true
place-port [] place has = true_false (sym has)
place-port (t ∷ tables) place has = by_offset (offset_of t.places place) refl (place-port tables place)
  where
    by_offset : (o : Option ℕ) → offset_of t.places place ≡ o → (has_place (ports_of tables) place ≡ true → has_port (ports_of tables) (port_of place) ≡ true) → has_port (ports_of (t ∷ tables)) (port_of place) ≡ true
    by_offset (Some at) e rest = rw (same_true t.places.port.0 (port_of place) (sym (offset-port t.places place at e))) refl
    by_offset None e rest = or_second (nat_eq t.places.port.0 (port_of place)) (has_port (ports_of tables) (port_of place)) (rest (rw e at has))

pub place-row : (rows : List (Option PortTable)) (at : ℕ) (place : Place) → AreApart rows → port_at rows at ≡ Some (port_of place) → has_place (ports_of (tables_present rows)) place ≡ true
    → IfSome (row_at rows at) (λ (t : PortTable). is_some (offset_of t.places place) ≡ true)
place-row [] at place apart e has = none_some (port_of place) e
place-row (None ∷ rows) zero place apart e has = none_some (port_of place) e
place-row (None ∷ rows) (suc at) place apart e has = place-row rows at place (tail_apart None rows apart) e has
place-row (Some t ∷ rows) zero place apart e has = elim (cases_Bool (is_some (offset_of t.places place))) [
  | inl here ↦ here
  | inr absent ↦ (let once = once-apart (Some t ∷ rows) apart in
      let same : t.places.port.0 ≡ port_of place = same_Some t.places.port.0 (port_of place) e in
      let rest : has_place (ports_of (tables_present rows)) place ≡ true = rw absent at has in
      true_false (sym (place-port (tables_present rows) place rest) ∙ (ap (has_port (ports_of (tables_present rows))) (sym same) ∙ once.0)))
]
place-row (Some t ∷ rows) (suc at) place apart e has = by_offset (offset_of t.places place) refl (place-row rows at place (tail_apart (Some t) rows apart) e)
  where
    by_offset : (o : Option ℕ) → offset_of t.places place ≡ o
        → (has_place (ports_of (tables_present rows)) place ≡ true → IfSome (row_at rows at) (λ (t : PortTable). is_some (offset_of t.places place) ≡ true))
        → IfSome (row_at rows at) (λ (t : PortTable). is_some (offset_of t.places place) ≡ true)
    by_offset (Some k) f rest = absurd (let first : 0 ≡ suc at = apart 0 (suc at) (port_of place) (ap (λ (n : ℕ). Some n) (sym (offset-port t.places place k f))) e in omega (arith, first))
    by_offset None f rest = rest (rw f at has)

-- one more table, behind the others
pub present-push : (rows : List (Option PortTable)) (t : PortTable) → tables_present (rows ++ Some t ∷ []) ≡ tables_present rows ++ t ∷ []
present-push [] t = refl
present-push (None ∷ rows) t = present-push rows t
present-push (Some u ∷ rows) t = ap (λ (ts : List PortTable). u ∷ ts) (present-push rows t)

pub indexed-push : (rows : List (Option PortTable)) (t : PortTable) (index new : ℕ → Option ℕ) → IsIndexed rows index → has_port (ports_of (tables_present rows)) t.places.port.0 ≡ false
    → ((port : ℕ) → new port ≡ (if nat_eq t.places.port.0 port then Some (length rows) else index port)) → IsIndexed (rows ++ Some t ∷ []) new
indexed-push rows t index new is none put = record {
  found = λ at port e. elim (cases_Bool (nat_eq at (length rows))) [
    | inl last ↦ (let here = nat_eq-is at (length rows) last in
        let port_is : t.places.port.0 ≡ port = same_Some t.places.port.0 port (sym (at_last rows) ∙ (ap (port_at (rows ++ Some t ∷ [])) (sym here) ∙ e)) in
        let same = same_true t.places.port.0 port port_is in
        rw (put port, same, here) refl)
    | inr other ↦ (let before : port_at rows at ≡ Some port = sym (elsewhere rows at (apart_from at (length rows) other)) ∙ e in
        let differ : t.places.port.0 ≢ port = (λ (same : t.places.port.0 ≡ port). true_false (sym (port-there rows at port before) ∙ (ap (has_port (ports_of (tables_present rows))) (sym same) ∙ none))) in
        rw (put port, nat_eq-differs t.places.port.0 port differ) (is.found at port before))
  ];
  there = λ at port e. elim (cases_Bool (nat_eq t.places.port.0 port)) [
    | inl same ↦ (let here : length rows ≡ at = same_Some (length rows) at (sym (rw same at (put port)) ∙ e) in
        rw (← here) (at_last rows ∙ ap (λ (n : ℕ). Some n) (nat_eq-is t.places.port.0 port same)))
    | inr differs ↦ (let before : port_at rows at ≡ Some port = is.there at port (sym (rw differs at (put port)) ∙ e) in
        let within = within_rows rows at port before in
        elsewhere rows at (λ (last : at ≡ length rows). absurd (omega (arith, last, within))) ∙ before)
  ];
}
  where
    at_last : (rows : List (Option PortTable)) → port_at (rows ++ Some t ∷ []) (length rows) ≡ Some t.places.port.0
    at_last [] = refl
    at_last (s ∷ rows) = at_last rows

    elsewhere : (rows : List (Option PortTable)) (at : ℕ) → at ≢ length rows → port_at (rows ++ Some t ∷ []) at ≡ port_at rows at
    elsewhere [] zero differ = absurd (differ refl)
    elsewhere [] (suc at) differ = refl
    elsewhere (s ∷ rows) zero differ = refl
    elsewhere (s ∷ rows) (suc at) differ = elsewhere rows at (λ (e : at ≡ length rows). differ (ap suc e))

-- a table is taken away
pub without-absent : (rows : List (Option PortTable)) (port : ℕ) → has_port (ports_of (tables_present rows)) port ≡ false → without port (tables_present rows) ≡ tables_present rows
without-absent rows port none = over (tables_present rows) none
  where
    over : (tables : List PortTable) → has_port (ports_of tables) port ≡ false → without port tables ≡ tables
    over [] none = refl
    over (t ∷ tables) none = elim (cases_Bool (nat_eq t.places.port.0 port)) [
      | inl same ↦ true_false (sym (rw same refl) ∙ none)
      | inr differs ↦ rw differs (ap (λ (ts : List PortTable). t ∷ ts) (over tables (rw differs at none)))
    ]

pub without-row : (rows : List (Option PortTable)) (at port : ℕ) → AreApart rows → port_at rows at ≡ Some port → tables_present (slice_set rows at None) ≡ without port (tables_present rows)
without-row [] at port apart e = none_some port e
without-row (None ∷ rows) zero port apart e = none_some port e
without-row (None ∷ rows) (suc at) port apart e = without-row rows at port (tail_apart None rows apart) e
without-row (Some t ∷ rows) zero port apart e =
    let once = once-apart (Some t ∷ rows) apart in
    let same : t.places.port.0 ≡ port = same_Some t.places.port.0 port e in
    let none : has_port (ports_of (tables_present rows)) port ≡ false = ap (has_port (ports_of (tables_present rows))) (sym same) ∙ once.0 in
    rw (same_true t.places.port.0 port same) (sym (without-absent rows port none))
without-row (Some t ∷ rows) (suc at) port apart e =
    let differ : t.places.port.0 ≢ port = (λ (same : t.places.port.0 ≡ port). let first : 0 ≡ suc at = apart 0 (suc at) port (ap (λ (n : ℕ). Some n) same) e in absurd (omega (arith, first))) in
    rw (nat_eq-differs t.places.port.0 port differ) (ap (λ (ts : List PortTable). t ∷ ts) (without-row rows at port (tail_apart (Some t) rows apart) e))

pub indexed-without : (rows : List (Option PortTable)) (at port : ℕ) (index new : ℕ → Option ℕ) → IsIndexed rows index → index port ≡ Some at
    → ((other : ℕ) → new other ≡ (if nat_eq port other then None else index other)) → IsIndexed (slice_set rows at None) new
indexed-without rows at port index new is there gone = record {
  found = λ k other e. elim (cases_Bool (nat_eq k at)) [
    | inl same ↦ (let here : port_at (slice_set rows at None) at ≡ Some other = ap (port_at (slice_set rows at None)) (sym (nat_eq-is k at same)) ∙ e in
        none_some other (sym (ap port_in (get_or-set_same rows at None None (within_rows rows at port (is.there at port there)))) ∙ here))
    | inr differs ↦ (let before : port_at rows k ≡ Some other = sym (ap port_in (get_or-set_other rows at k None None (apart_from k at differs))) ∙ e in
        let index_is = is.found k other before in
        let differ : port ≢ other = (λ (same : port ≡ other). apart_from k at differs (same_Some k at (sym index_is ∙ (ap index (sym same) ∙ there)))) in
        rw (gone other, nat_eq-differs port other differ) index_is)
  ];
  there = λ k other e. elim (cases_Bool (nat_eq port other)) [
    | inl same ↦ none_some k (sym (rw same at (gone other)) ∙ e)
    | inr differs ↦ (let index_is : index other ≡ Some k = sym (rw differs at (gone other)) ∙ e in
        let before = is.there k other index_is in
        let differ : k ≢ at = (λ (same : k ≡ at). apart_from port other differs (same_Some port other (sym (is.there at port there) ∙ (ap (port_at rows) (sym same) ∙ before)))) in
        ap port_in (get_or-set_other rows at k None None differ) ∙ before)
  ];
}

-- a table behind others is that of another port
apart_from_it : (tables : List PortTable) (t : PortTable) (rest : List PortTable) (port : ℕ) → has_port (ports_of (tables ++ t ∷ rest)) port ≡ false → nat_eq t.places.port.0 port ≡ false
apart_from_it [] t rest port none = elim (cases_Bool (nat_eq t.places.port.0 port)) [
  | inl same ↦ true_false (sym (rw same refl) ∙ none)
  | inr differs ↦ differs
]
apart_from_it (u ∷ tables) t rest port none = elim (cases_Bool (nat_eq u.places.port.0 port)) [
  | inl same ↦ true_false (sym (rw same refl) ∙ none)
  | inr differs ↦ apart_from_it tables t rest port (rw differs at none)
]

table_is_new : (tables : List PortTable) (t : PortTable) (rest : List PortTable) → ArePortsOnce (ports_of (tables ++ t ∷ rest)) → has_port (ports_of tables) t.places.port.0 ≡ false
table_is_new [] t rest once = refl
table_is_new (u ∷ tables) t rest once = rw (turned t.places.port.0 u.places.port.0 (apart_from_it tables t rest u.places.port.0 once.0)) (table_is_new tables t rest once.1)

pub row_is_new : (tables : List PortTable) (row : Option PortTable) (rest : List (Option PortTable)) (all : List PortTable) → tables ++ tables_present (row ∷ rest) ≡ all → ArePortsOnce (ports_of all)
    → IfSome row (λ t. has_port (ports_of tables) t.places.port.0 ≡ false)
row_is_new tables None rest all joined once = tt
row_is_new tables (Some t) rest all joined once = table_is_new tables t (tables_present rest) (rw (← joined) at once)

-- a row has no more tables than one
pub rows_enough : (rows : List (Option PortTable)) → length (tables_present rows) ≤ length rows
rows_enough [] = omega arith
rows_enough (None ∷ rows) = omega (arith, rows_enough rows)
rows_enough (Some t ∷ rows) = omega (arith, rows_enough rows)

-- the table in a row is one of the tables
pub row_is_table : (rows : List (Option PortTable)) (at : ℕ) → All IsTable (tables_present rows) → IfSome (row_at rows at) IsTable
row_is_table rows at all = over rows at (recursion_from_All IsTable (tables_present rows) all)
  where
    over : (rows : List (Option PortTable)) (at : ℕ) → AllByRecursion IsTable (tables_present rows) → IfSome (row_at rows at) IsTable
    over [] at all = tt
    over (None ∷ rows) zero all = tt
    over (None ∷ rows) (suc at) all = over rows at all
    over (Some t ∷ rows) zero all = all.0
    over (Some t ∷ rows) (suc at) all = over rows at all.1

-- a table that is found is one of the tables
pub found_is_table : (tables : List PortTable) (port : ℕ) (t : PortTable) → All IsTable tables → find (λ (t : PortTable). nat_eq t.places.port.0 port) tables ≡ Some t → IsTable t
found_is_table tables port t all e = over tables (recursion_from_All IsTable tables all) e
  where
    is : (a b : PortTable) → Some a ≡ Some b → a ≡ b
    is a b e = cc

    over : (tables : List PortTable) → AllByRecursion IsTable tables → find (λ (t : PortTable). nat_eq t.places.port.0 port) tables ≡ Some t → IsTable t
    over [] all e = cc
    over (u ∷ tables) all e = elim (cases_Bool (nat_eq u.places.port.0 port)) [
      | inl same ↦ (let there : u ≡ t = is u t (rw same at e) in rw (← there) all.0)
      | inr differs ↦ over tables all.1 (rw differs at e)
    ]
