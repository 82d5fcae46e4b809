-- The number at a place, after a change of the tables.
use Rattle.std.proofs.Common.{ℕ, ◌≡◌, ◌≢◌, ◌<◌, true, false, not, nat_eq, if◌then◌else◌, List, [], ◌∷◌, ◌++◌, length, map, filter, Option, Some, None, inl, inr, refl, sym, ◌∙◌, ap, arith}
use Rattle.std.specs.Prelude.{IfSome, option_map}
use Rattle.std.specs.List.{AllByRecursion}
use Rattle.std.proofs.lemmas.Bool.{cases_Bool}
use Rattle.std.proofs.lemmas.Bool.Decides.{nat_tests}
use Rattle.std.proofs.lemmas.List.{length-set, get_or-set_same, get_or-set_other, get_or-replicate}
use Rattle.nm_types.specs.declared.place.Place.{Place}
use Rattle.nm_types.specs.Places.{is_same_place}
use Rattle.nm_types.proofs.Tests.{true_false}
use Rattle.nm_hold.specs.declared.table.PortPlaces.{PortPlaces}
use Rattle.nm_hold.specs.declared.table.PortTable.{PortTable}
use Rattle.nm_hold.specs.Offsets.{count_of, offset_of, has_place}
use Rattle.nm_hold.specs.Tables.{IsTable, ports_of, number_at, put_in}
use Rattle.nm_hold.specs.Holds.{port_of}
use Rattle.nm_hold.specs.Ties.{IsBlank}
use Rattle.nm_hold.proofs.Spots.{nat_eq-is, same_place-is, offset-within, offset-port, offset-same}

pub places-put_in : (place : Place) (number : ℕ) (t : PortTable) (o : Option ℕ) → offset_of t.places place ≡ o → (put_in place number t).places ≡ t.places
places-put_in place number t None e = rw e refl
places-put_in place number t (Some at) e = rw e refl

pub ports_of-put : (place : Place) (number : ℕ) (tables : List PortTable) → ports_of (map (put_in place number) tables) ≡ ports_of tables
ports_of-put place number [] = refl
ports_of-put place number (t ∷ tables) =
    let first = places-put_in place number t (offset_of t.places place) refl in
    let others = ports_of-put place number tables in
    cc

IsTable-put_by : (place : Place) (number : ℕ) (t : PortTable) (o : Option ℕ) → offset_of t.places place ≡ o → IsTable t → IsTable (put_in place number t)
IsTable-put_by place number t None e table = rw e table
IsTable-put_by place number t (Some at) e table = rw e (record { sizes = table.sizes; full = length-set t.numbers.items at number ∙ table.full })

pub row-put : (place : Place) (number : ℕ) (row : Option PortTable) → IfSome row IsTable → IfSome (option_map (put_in place number) row) IsTable
row-put place number None table = tt
row-put place number (Some t) table = IsTable-put_by place number t (offset_of t.places place) refl table

pub tables-put : (place : Place) (number : ℕ) (tables : List PortTable) → AllByRecursion IsTable tables → AllByRecursion IsTable (map (put_in place number) tables)
tables-put place number [] all = tt
tables-put place number (t ∷ tables) all = (IsTable-put_by place number t (offset_of t.places place) refl all.0, tables-put place number tables all.1)

here_by : (place : Place) (number : ℕ) (t : PortTable) (tables : List PortTable) (o : Option ℕ) → offset_of t.places place ≡ o → IsTable t → has_place (ports_of (t ∷ tables)) place ≡ true
    → (has_place (ports_of tables) place ≡ true → number_at (map (put_in place number) tables) place ≡ number) → number_at (map (put_in place number) (t ∷ tables)) place ≡ number
here_by place number t tables None e table has others =
    let rest : has_place (ports_of tables) place ≡ true = rw e at has in
    rw (e, e) (others rest)
here_by place number t tables (Some at) e table has others =
    let within : at < length t.numbers.items = omega (arith, offset-within t.places place at e, table.full) in
    rw (e, e) (get_or-set_same t.numbers.items at number 0 within)

number-put_here : (place : Place) (number : ℕ) (tables : List PortTable) → AllByRecursion IsTable tables → has_place (ports_of tables) place ≡ true → number_at (map (put_in place number) tables) place ≡ number
number-put_here place number [] all has = cc
number-put_here place number (t ∷ tables) all has = here_by place number t tables (offset_of t.places place) refl all.0 has (number-put_here place number tables all.1)

other_by : (place other : Place) (number : ℕ) (t : PortTable) (tables : List PortTable) (o n : Option ℕ) → offset_of t.places place ≡ o → offset_of t.places other ≡ n → is_same_place place other ≡ false
    → number_at (map (put_in place number) tables) other ≡ number_at tables other → number_at (map (put_in place number) (t ∷ tables)) other ≡ number_at (t ∷ tables) other
other_by place other number t tables None None e f apart rest = rw (e, f) rest
other_by place other number t tables None (Some next) e f apart rest = rw (e, f) refl
other_by place other number t tables (Some at) None e f apart rest = rw (e, f) rest
other_by place other number t tables (Some at) (Some next) e f apart rest =
    let differ : next ≢ at = (λ (same : next ≡ at). true_false (sym (offset-same t.places place other at e (f ∙ ap (λ (n : ℕ). Some n) same)) ∙ apart)) in
    rw (e, f) (get_or-set_other t.numbers.items at next number 0 differ)

number-put_other : (place other : Place) (number : ℕ) (tables : List PortTable) → is_same_place place other ≡ false → number_at (map (put_in place number) tables) other ≡ number_at tables other
number-put_other place other number [] apart = refl
number-put_other place other number (t ∷ tables) apart = other_by place other number t tables (offset_of t.places place) (offset_of t.places other) refl refl apart (number-put_other place other number tables apart)

-- a number put at a place, and no other place changes
pub number-put : (place : Place) (number : ℕ) (tables : List PortTable) (other : Place) → AllByRecursion IsTable tables → has_place (ports_of tables) place ≡ true
    → number_at (map (put_in place number) tables) other ≡ (if is_same_place place other then number else number_at tables other)
number-put place number tables other all has = elim (cases_Bool (is_same_place place other)) [
  | inl e ↦ (let same : place ≡ other = same_place-is place other e in rw (e, ← same) (number-put_here place number tables all has))
  | inr e ↦ rw (e, number-put_other place other number tables e) refl
]

blank_by : (t : PortTable) (place : Place) (o : Option ℕ) → offset_of t.places place ≡ o → IsBlank t → number_at (t ∷ []) place ≡ 0
blank_by t place None e blank = rw e refl
blank_by t place (Some at) e blank = rw (e, blank.empty) (get_or-replicate (count_of t.places.sizes) at 0 0 (offset-within t.places place at e))

push_by : (t new : PortTable) (tables : List PortTable) (place : Place) (o : Option ℕ) → offset_of t.places place ≡ o → number_at (tables ++ new ∷ []) place ≡ number_at tables place
    → number_at (t ∷ (tables ++ new ∷ [])) place ≡ number_at (t ∷ tables) place
push_by t new tables place None e rest = rw e rest
push_by t new tables place (Some at) e rest = rw e refl

-- a blank table adds no buffer
pub number-push : (new : PortTable) (tables : List PortTable) (place : Place) → IsBlank new → number_at (tables ++ new ∷ []) place ≡ number_at tables place
number-push new [] place blank = blank_by new place (offset_of new.places place) refl blank
number-push new (t ∷ tables) place blank = push_by t new tables place (offset_of t.places place) refl (number-push new tables place blank)

-- a place that has a number is some port's
pub has_place-from_number : (tables : List PortTable) (place : Place) → 0 < number_at tables place → has_place (ports_of tables) place ≡ true
has_place-from_number [] place h = absurd (omega arith)
has_place-from_number (t ∷ tables) place h = has_by t tables place (offset_of t.places place) refl h (has_place-from_number tables place)
  where
    has_by : (t : PortTable) (tables : List PortTable) (place : Place) (o : Option ℕ) → offset_of t.places place ≡ o → 0 < number_at (t ∷ tables) place
        → (0 < number_at tables place → has_place (ports_of tables) place ≡ true) → has_place (ports_of (t ∷ tables)) place ≡ true
    has_by t tables place None e h rest = rw e (rest (rw e at h))
    has_by t tables place (Some at) e h rest = rw e refl

-- the tables of all other ports
abbrev pub without : ℕ → List PortTable → List PortTable
without port tables = filter (λ (t : PortTable). not (nat_eq t.places.port.0 port)) tables

gone_by : (port : ℕ) (place : Place) (t : PortTable) (tables : List PortTable) (o : Option ℕ) → offset_of t.places place ≡ o → port_of place ≡ port
    → number_at (without port tables) place ≡ 0 → number_at (without port (t ∷ tables)) place ≡ 0
gone_by port place t tables o e at_port rest = elim (cases_Bool (nat_eq t.places.port.0 port)) [
  | inl same ↦ rw same rest
  | inr other ↦ rw other (stays o e other)
]
  where
    stays : (o : Option ℕ) → offset_of t.places place ≡ o → nat_eq t.places.port.0 port ≡ false → number_at (t ∷ without port tables) place ≡ 0
    stays None e other = rw e rest
    stays (Some at) e other = let same : nat_eq t.places.port.0 port ≡ true = grind (arith, nat_tests, offset-port t.places place at e) in true_false (sym same ∙ other)

number-without_gone : (port : ℕ) (tables : List PortTable) (place : Place) → port_of place ≡ port → number_at (without port tables) place ≡ 0
number-without_gone port [] place e = refl
number-without_gone port (t ∷ tables) place e = gone_by port place t tables (offset_of t.places place) refl e (number-without_gone port tables place e)

kept_by : (port : ℕ) (place : Place) (t : PortTable) (tables : List PortTable) (o : Option ℕ) → offset_of t.places place ≡ o → port_of place ≢ port
    → number_at (without port tables) place ≡ number_at tables place → number_at (without port (t ∷ tables)) place ≡ number_at (t ∷ tables) place
kept_by port place t tables None e other rest = elim (cases_Bool (nat_eq t.places.port.0 port)) [
  | inl same ↦ rw (same, e) rest
  | inr differs ↦ rw (differs, e) rest
]
kept_by port place t tables (Some at) e other rest = elim (cases_Bool (nat_eq t.places.port.0 port)) [
  | inl same ↦ absurd (other (offset-port t.places place at e ∙ nat_eq-is t.places.port.0 port same))
  | inr differs ↦ rw (differs, e) refl
]

number-without_kept : (port : ℕ) (tables : List PortTable) (place : Place) → port_of place ≢ port → number_at (without port tables) place ≡ number_at tables place
number-without_kept port [] place other = refl
number-without_kept port (t ∷ tables) place other = kept_by port place t tables (offset_of t.places place) refl other (number-without_kept port tables place other)

-- a port whose places hold nothing can be left out
pub number-without : (port : ℕ) (tables : List PortTable) (place : Place) → (port_of place ≡ port → number_at tables place ≡ 0) → number_at (without port tables) place ≡ number_at tables place
number-without port tables place empty = elim (cases_Bool (nat_eq (port_of place) port)) [
  | inl same ↦ (let here : port_of place ≡ port = nat_eq-is (port_of place) port same in number-without_gone port tables place here ∙ sym (empty here))
  | inr differs ↦ number-without_kept port tables place (λ (e : port_of place ≡ port). let same : nat_eq (port_of place) port ≡ true = grind (arith, nat_tests) in true_false (sym same ∙ differs))
]

pub tables-without : (port : ℕ) (tables : List PortTable) → AllByRecursion IsTable tables → AllByRecursion IsTable (without port tables)
tables-without port [] all = tt
tables-without port (t ∷ tables) all = elim (cases_Bool (nat_eq t.places.port.0 port)) [
  | inl same ↦ rw same (tables-without port tables all.1)
  | inr differs ↦ rw differs (all.0, tables-without port tables all.1)
]

pub ports_of-without : (port : ℕ) (tables : List PortTable) → ports_of (without port tables) ≡ filter (λ (p : PortPlaces). not (nat_eq p.port.0 port)) (ports_of tables)
ports_of-without port [] = refl
ports_of-without port (t ∷ tables) = elim (cases_Bool (nat_eq t.places.port.0 port)) [
  | inl same ↦ rw same (ports_of-without port tables)
  | inr differs ↦ rw differs (ap (λ (others : List PortPlaces). t.places ∷ others) (ports_of-without port tables))
]
