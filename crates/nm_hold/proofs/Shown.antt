-- What a hold shows of its cells and tables.
use Rattle.std.proofs.Common.{Bool, filter, not, ℕ, zero, suc, ◌≡◌, ◌+◌, ◌<◌, ◌≤◌, true, false, nat_eq, List, [], ◌∷◌, ◌++◌, length, find, Option, Some, None, inl, inr, refl, sym, ◌∙◌, ap, arith}
use Rattle.std.specs.Prelude.{All, ◌||◌, is_some, IsSome, option_map}
use Rattle.std.specs.List.{AllByRecursion}
use Rattle.std.specs.Option.{option_map_or}
use Rattle.std.proofs.lemmas.Bool.{cases_Bool, or_parts}
use Rattle.std.proofs.lemmas.List.Elements.{All-from_recursion, recursion_from_All}
use Rattle.std.proofs.lemmas.Bool.Decides.{nat_tests}
use Rattle.nm_types.specs.Limits.{most_pool}
use Rattle.nm_types.specs.declared.id.PortId.{PortId}
use Rattle.nm_types.specs.declared.place.Place.TheVariants.{Extra}
use Rattle.nm_hold.proofs.Spots.{nat_eq-is, extra_stands}
use Rattle.nm_types.specs.declared.place.Place.{Place}
use Rattle.nm_types.specs.Places.{held_at}
use Rattle.nm_types.proofs.Tests.{false_true, or_second, or_first}
use Rattle.nm_hold.specs.declared.standing.Standing.{Standing}
use Rattle.nm_hold.specs.declared.table.PortPlaces.{PortPlaces}
use Rattle.nm_hold.specs.declared.table.PortTable.{PortTable}
use Rattle.nm_hold.specs.Offsets.{AreSizes, ArePortsOnce, has_port, has_place, offset_of}
use Rattle.nm_hold.specs.Tables.{IsTable, ports_of, number_at}
use Rattle.nm_hold.specs.Holds.{cell_at, places_in, extra_of, is_named_in, IsHold}
use Rattle.nm_hold.specs.Ties.{IsTied}
use Rattle.nm_hold.specs.Stored.{IsStored}
use Rattle.nm_hold.specs.declared.hold.Hold.TheInside.{Inside}
use Rattle.nm_hold.proofs.Numbers.{has_place-from_number}
use Rattle.nm_hold.proofs.Tied.{number_if, number_if-some, held-number, standing_by_number}

pub standing_of : (cell : Option Standing) → IsSome cell → (s : Standing) × (cell ≡ Some s)
standing_of None h = cc
standing_of (Some s) h = (s, refl)

pub number_if-is : (n idx : ℕ) → number_if n ≡ Some idx → (n ≡ idx) × (0 < n)
number_if-is zero idx e = cc
number_if-is (suc n) idx e = (cc, omega arith)

pub number_if-none : (n : ℕ) → number_if n ≡ None → n ≡ 0
number_if-none zero e = refl
number_if-none (suc n) e = cc

sizes-tables : (tables : List PortTable) → AllByRecursion IsTable tables → AllByRecursion (λ (p : PortPlaces). AreSizes p.sizes) (ports_of tables)
sizes-tables [] all = tt
sizes-tables (t ∷ tables) all = (all.0.sizes, sizes-tables tables all.1)

pub IsHold-stored : (cells : List (Option Standing)) (tables : List PortTable) → 3 ≤ length cells → length cells ≤ most_pool + 2 → All IsTable tables → ArePortsOnce (ports_of tables) → IsTied cells tables
    → IsHold (record { cells = cells; ports = ports_of tables })
IsHold-stored cells tables low high all once tied = record {
  once = once;
  pool = (omega arith, omega arith);
  sizes = All-from_recursion (λ (p : PortPlaces). AreSizes p.sizes) (ports_of tables) (sizes-tables tables (recursion_from_All IsTable tables all));
  standing = λ idx s e. (let right = tied.standing idx s e in record {
    low = right.low;
    index = right.index;
    there = held-number cells tables s.home.place tied ∙ (ap number_if right.number ∙ number_if-some idx (omega (arith, right.low)));
    belongs = has_place-from_number tables s.home.place (omega (arith, right.number, right.low));
  });
  held = λ p idx e. (let n = number_if-is (number_at tables p) idx (sym (held-number cells tables p tied) ∙ e) in rw (← n.0) (tied.numbered p n.1));
}

-- what is kept inside a hold makes it one
pub stored_shown : (h : Inside) → IsStored h → IsHold (record { cells = h.cells; ports = ports_of h.ports.tables })
stored_shown h inv = IsHold-stored h.cells h.ports.tables inv.low inv.high inv.tables inv.once inv.tied

pub find-places : (port : ℕ) (tables : List PortTable) → find (λ (p : PortPlaces). nat_eq p.port.0 port) (ports_of tables) ≡ option_map (λ (t : PortTable). t.places) (find (λ (t : PortTable). nat_eq t.places.port.0 port) tables)
find-places port [] = refl
find-places port (t ∷ tables) = elim (cases_Bool (nat_eq t.places.port.0 port)) [
  | inl e ↦ rw e refl
  | inr e ↦ rw e (find-places port tables)
]

pub extra_of-tables : (port : ℕ) (tables : List PortTable) (found : Option PortTable) → found ≡ find (λ (t : PortTable). nat_eq t.places.port.0 port) tables
    → option_map_or (λ (t : PortTable). t.places.sizes.extra) found 0 ≡ extra_of (ports_of tables) port
extra_of-tables port tables found e = rw (find-places port tables, ← e) (by_cases found)
  where
    by_cases : (o : Option PortTable) → option_map_or (λ (t : PortTable). t.places.sizes.extra) o 0 ≡ option_map_or (λ (p : PortPlaces). p.sizes.extra) (option_map (λ (t : PortTable). t.places) o) 0
    by_cases None = refl
    by_cases (Some t) = refl

all_push : (tables : List PortTable) (t : PortTable) → AllByRecursion IsTable tables → IsTable t → AllByRecursion IsTable (tables ++ t ∷ [])
all_push [] t all new = (new, tt)
all_push (u ∷ tables) t all new = (all.0, all_push tables t all.1 new)

pub tables-push : (tables : List PortTable) (t : PortTable) → All IsTable tables → IsTable t → All IsTable (tables ++ t ∷ [])
tables-push tables t all new = All-from_recursion IsTable (tables ++ t ∷ []) (all_push tables t (recursion_from_All IsTable tables all) new)

-- a place that holds a buffer has its number
pub held_has_number : (cells : List (Option Standing)) (tables : List PortTable) (p : Place) → IsTied cells tables → IsSome (held_at (places_in cells) p) → 0 < number_at tables p
held_has_number cells tables p tied some = by_number (number_at tables p) (rw (held-number cells tables p tied) at some)
  where
    by_number : (n : ℕ) → IsSome (number_if n) → 0 < n
    by_number zero h = cc
    by_number (suc n) h = omega arith

-- and a buffer stands under it
pub cell_there : (cells : List (Option Standing)) (tables : List PortTable) (p : Place) (n : ℕ) → IsTied cells tables → IsSome (held_at (places_in cells) p) → n ≡ number_at tables p → is_some (cell_at cells n) ≡ true
cell_there cells tables p n tied held is = ap is_some (ap (cell_at cells) is ∙ (standing_by_number cells tables p tied (held_has_number cells tables p tied held)).1)

-- a buffer that is named stands somewhere
pub named_stands : (cell : Option Standing) → is_named_in cell ≡ true → (s : Standing) × (cell ≡ Some s)
named_stands None e = cc
named_stands (Some s) e = (s, refl)

both_false : (a b : Bool) → a ≡ false → b ≡ false → (a || b) ≡ false
both_false a b e f = rw (e, f) refl

-- one more port, and one port fewer
pub once-push : (ports : List PortPlaces) (new : PortPlaces) → ArePortsOnce ports → has_port ports new.port.0 ≡ false → ArePortsOnce (ports ++ new ∷ [])
once-push [] new once apart = (refl, tt)
once-push (p ∷ ports) new once apart =
    let both = or_parts (nat_eq p.port.0 new.port.0) (has_port ports new.port.0) apart in
    let flipped : nat_eq new.port.0 p.port.0 ≡ false = grind (arith, nat_tests, both.0) in
    (has_port-push ports new p.port.0 once.0 flipped, once-push ports new once.1 both.1)
  where
    has_port-push : (ports : List PortPlaces) (new : PortPlaces) (port : ℕ) → has_port ports port ≡ false → nat_eq new.port.0 port ≡ false → has_port (ports ++ new ∷ []) port ≡ false
    has_port-push [] new port none apart = both_false (nat_eq new.port.0 port) false apart refl
    has_port-push (q ∷ ports) new port none apart =
        let both = or_parts (nat_eq q.port.0 port) (has_port ports port) none in
        both_false (nat_eq q.port.0 port) (has_port (ports ++ new ∷ []) port) both.0 (has_port-push ports new port both.1 apart)

pub once-without : (port : ℕ) (ports : List PortPlaces) → ArePortsOnce ports → ArePortsOnce (filter (λ (p : PortPlaces). not (nat_eq p.port.0 port)) ports)
once-without port [] once = tt
once-without port (p ∷ ports) once = elim (cases_Bool (nat_eq p.port.0 port)) [
  | inl same ↦ rw same (once-without port ports once.1)
  | inr differs ↦ rw differs (none_in ports p.port.0 once.0, once-without port ports once.1)
]
  where
    none_in : (ports : List PortPlaces) (other : ℕ) → has_port ports other ≡ false → has_port (filter (λ (p : PortPlaces). not (nat_eq p.port.0 port)) ports) other ≡ false
    none_in [] other none = refl
    none_in (q ∷ ports) other none =
        let both = or_parts (nat_eq q.port.0 other) (has_port ports other) none in
        elim (cases_Bool (nat_eq q.port.0 port)) [
          | inl same ↦ rw same (none_in ports other both.1)
          | inr differs ↦ rw differs (both_false (nat_eq q.port.0 other) (has_port (filter (λ (p : PortPlaces). not (nat_eq p.port.0 port)) ports) other) both.0 (none_in ports other both.1))
        ]

has_port-from_place : (ports : List PortPlaces) (port : PortId) (at : ℕ) → has_place ports (Extra port at) ≡ true → has_port ports port.0 ≡ true
has_port-from_place [] port at has = has
has_port-from_place (p ∷ ports) port at has = by_offset (offset_of p (Extra port at)) refl (has_port-from_place ports port at)
  where
    by_offset : (o : Option ℕ) → offset_of p (Extra port at) ≡ o → (has_place ports (Extra port at) ≡ true → has_port ports port.0 ≡ true) → has_port (p ∷ ports) port.0 ≡ true
    by_offset None e rest = or_second (nat_eq p.port.0 port.0) (has_port ports port.0) (rest (rw e at has))
    by_offset (Some spot) e rest =
        let s = extra_stands p port at spot e in
        or_first (nat_eq p.port.0 port.0) (has_port ports port.0) (grind (arith, nat_tests, s.same))

-- an extra position is below the number of them
pub extra_within : (ports : List PortPlaces) (port : PortId) (at : ℕ) → ArePortsOnce ports → has_place ports (Extra port at) ≡ true → at < extra_of ports port.0
extra_within [] port at once has = cc
extra_within (p ∷ ports) port at once has = by_offset (offset_of p (Extra port at)) refl (extra_within ports port at once.1)
  where
    by_offset : (o : Option ℕ) → offset_of p (Extra port at) ≡ o → (has_place ports (Extra port at) ≡ true → at < extra_of ports port.0) → at < extra_of (p ∷ ports) port.0
    by_offset None e rest = elim (cases_Bool (nat_eq p.port.0 port.0)) [
      | inl same ↦ (let later : has_place ports (Extra port at) ≡ true = rw e at has in
          let there = has_port-from_place ports port at later in
          let ports_same : p.port.0 ≡ port.0 = nat_eq-is p.port.0 port.0 same in
          false_true (sym once.0 ∙ (ap (has_port ports) ports_same ∙ there)))
      | inr differs ↦ rw differs (rest (rw e at has))
    ]
    by_offset (Some spot) e rest =
        let s = extra_stands p port at spot e in
        let same : nat_eq p.port.0 port.0 ≡ true = grind (arith, nat_tests, s.same) in
        rw same s.within
