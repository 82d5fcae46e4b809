-- The buffers in a port's extra positions.
use Rattle.std.proofs.Common.{ℕ, zero, suc, ◌≡◌, ◌+◌, ◌<◌, ◌≤◌, Bool, true, false, nat_eq, List, [], ◌∷◌, ◌++◌, ◌⊎◌, length, Option, Some, None, inl, inr, refl, sym, ◌∙◌, ap, arith}
use Rattle.std.specs.Prelude.{◌||◌, is_some, option_map}
use Rattle.std.specs.List.{range_with_len, filter_map}
use Rattle.std.specs.Option.{option_to_list}
use Rattle.std.proofs.lemmas.Bool.{cases_Bool}
use Rattle.std.proofs.lemmas.List.{length-append}
use Rattle.std.proofs.lemmas.Bool.Decides.{nat_tests}
use Rattle.nm_types.specs.declared.id.PortId.{PortId}
use Rattle.nm_types.specs.declared.place.Place.{Place}
use Rattle.nm_types.specs.declared.place.Place.TheVariants.{Tx, Rx, Extra}
use Rattle.nm_types.specs.Limits.{most_extra}
use Rattle.nm_types.specs.SyncChecks.{contains_index}
use Rattle.std.specs.List.{AllByRecursion}
use Rattle.std.proofs.Common.{get_or, replicate}
use Rattle.std.proofs.lemmas.List.Elements.{recursion_from_All}
use Rattle.nm_hold.specs.declared.table.PortPlaces.{PortPlaces}
use Rattle.nm_hold.specs.Offsets.{AreSizes}
use Rattle.nm_hold.specs.declared.standing.Standing.{Standing}
use Rattle.nm_hold.specs.Holds.{HoldState, standing_at, index_at, place_at, extra_of, stands_at, IsHold}
use Rattle.nm_hold.proofs.Spots.{nat_eq-is, same_place-is}
use Rattle.nm_hold.proofs.Shown.{extra_within}
use Rattle.nm_extra.specs.Extras.{extras_of, position_in, position_at}

-- one more position
pub extras_more : (f : ℕ → Option ℕ) (from n : ℕ) → filter_map f (range_with_len from (suc n)) ≡ filter_map f (range_with_len from n) ++ option_to_list (f (from + n))
extras_more f from zero = (let at : from + 0 ≡ from = omega arith in rw at (one (f from) refl))
  where
    one : (o : Option ℕ) → f from ≡ o → filter_map f (from ∷ []) ≡ option_to_list (f from)
    one None e = rw e refl
    one (Some x) e = rw e refl
extras_more f from (suc n) = first (f from) refl (extras_more f (from + 1) n)
  where
    first : (o : Option ℕ) → f from ≡ o → filter_map f (range_with_len (from + 1) (suc n)) ≡ filter_map f (range_with_len (from + 1) n) ++ option_to_list (f (from + 1 + n))
        → filter_map f (range_with_len from (suc (suc n))) ≡ filter_map f (range_with_len from (suc n)) ++ option_to_list (f (from + suc n))
    first None e rest = (let at : from + suc n ≡ from + 1 + n = omega arith in rw (e, at) rest)
    first (Some x) e rest = (let at : from + suc n ≡ from + 1 + n = omega arith in rw (e, at) (ap (λ (xs : List ℕ). x ∷ xs) rest))

contains_from : (f : ℕ → Option ℕ) (from n x : ℕ) → contains_index (filter_map f (range_with_len from n)) x ≡ true → (k : ℕ) × (f k ≡ Some x)
contains_from f from zero x e = cc
contains_from f from (suc n) x e = by_first (f from) refl (contains_from f (from + 1) n x)
  where
    by_first : (o : Option ℕ) → f from ≡ o → (contains_index (filter_map f (range_with_len (from + 1) n)) x ≡ true → (k : ℕ) × (f k ≡ Some x)) → (k : ℕ) × (f k ≡ Some x)
    by_first None none rest = rest (rw none at e)
    by_first (Some y) some rest = elim (cases_Bool (nat_eq y x)) [
      | inl same ↦ (from, some ∙ ap (λ (n : ℕ). Some n) (nat_eq-is y x same))
      | inr differs ↦ rest (rw (some, differs) at e)
    ]

contains_there : (f : ℕ → Option ℕ) (from n k x : ℕ) → from ≤ k → k < from + n → f k ≡ Some x → contains_index (filter_map f (range_with_len from n)) x ≡ true
contains_there f from zero k x low high e = absurd (omega arith)
contains_there f from (suc n) k x low high e = by_place (cases_Bool (nat_eq k from)) (contains_there f (from + 1) n k x)
  where
    later : (o : Option ℕ) → f from ≡ o → contains_index (filter_map f (range_with_len (from + 1) n)) x ≡ true → contains_index (filter_map f (range_with_len from (suc n))) x ≡ true
    later None none rest = rw none rest
    later (Some y) some rest = rw some (or_true (nat_eq y x) (contains_index (filter_map f (range_with_len (from + 1) n)) x) rest)
      where
        or_true : (a b : Bool) → b ≡ true → (a || b) ≡ true
        or_true true b e = refl
        or_true false b e = e

    by_place : (nat_eq k from ≡ true) ⊎ (nat_eq k from ≡ false) → (from + 1 ≤ k → k < from + 1 + n → f k ≡ Some x → contains_index (filter_map f (range_with_len (from + 1) n)) x ≡ true)
        → contains_index (filter_map f (range_with_len from (suc n))) x ≡ true
    by_place (inl same) rest = (let at : k ≡ from = nat_eq-is k from same in let here : f from ≡ Some x = ap f (sym at) ∙ e in let is : nat_eq x x ≡ true = grind (arith, nat_tests) in rw (here, is) refl)
    by_place (inr differs) rest = (let above : from + 1 ≤ k = grind (arith, nat_tests) in later (f from) refl (rest above (omega arith) e))

-- a buffer that stands in an extra position of the port
pub record StandsThere (h : HoldState) (port : PortId) (idx at : ℕ) : Type 0 where
  pub within : at < extra_of h.ports port.0
  pub there : index_at h (Extra port at) ≡ Some idx
  pub low : 2 ≤ idx
  pub listed : contains_index (extras_of h port) idx ≡ true

place_is : (port : PortId) (o : Option Place) (at : ℕ) → position_in port o ≡ Some at → o ≡ Some (Extra port at)
place_is port None at e = cc
place_is port (Some (Tx other slot)) at e = cc
place_is port (Some (Rx other slot)) at e = cc
place_is port (Some (Extra other slot)) at e = elim (cases_Bool (nat_eq other.0 port.0)) [
  | inl same ↦ (let ports : other.0 ≡ port.0 = nat_eq-is other.0 port.0 same in
      let slots : slot ≡ at = some_is slot at (rw same at e) in
      ap (λ (n : ℕ). Some (Extra (record { 0 = n }) slot)) ports ∙ ap (λ (n : ℕ). Some (Extra port n)) slots)
  | inr differs ↦ none_some at (rw differs at e)
]
  where
    some_is : (a b : ℕ) → Some a ≡ Some b → a ≡ b
    some_is a b f = cc

    none_some : {X : Type 0} (a : ℕ) → None ≡ Some a → X
    none_some a f = cc

standing_is : (o : Option Standing) (p : Place) → option_map (λ (s : Standing). s.home.place) o ≡ Some p → (s : Standing) × (o ≡ Some s) × (s.home.place ≡ p)
standing_is None p e = cc
standing_is (Some s) p e = (s, refl, cc)

pub position-some : (h : HoldState) (port : PortId) (idx at : ℕ) → IsHold h → position_at h port idx ≡ Some at → StandsThere h port idx at
position-some h port idx at hold e =
    let found = standing_is (standing_at h idx) (Extra port at) (place_is port (place_at h idx) at e) in
    let right = hold.standing idx found.0 found.1 in
    let there : index_at h (Extra port at) ≡ Some idx = ap (index_at h) (sym found.2) ∙ right.there in
    let within = extra_within h.ports port at hold.once (rw found.2 at right.belongs) in
    record {
      within = within;
      there = there;
      low = right.low;
      listed = contains_there (λ (k : ℕ). index_at h (Extra port k)) 0 (extra_of h.ports port.0) at idx (omega arith) (omega arith) there;
    }

pub position-none : (h : HoldState) (port : PortId) (idx : ℕ) → IsHold h → position_at h port idx ≡ None → contains_index (extras_of h port) idx ≡ false
position-none h port idx hold e = elim (cases_Bool (contains_index (extras_of h port) idx)) [
  | inl listed ↦ (let found = contains_from (λ (k : ℕ). index_at h (Extra port k)) 0 (extra_of h.ports port.0) idx listed in
      let stands = hold.held (Extra port found.0) idx found.1 in
      absurd (not_there (standing_at h idx) found.0 stands e))
  | inr out ↦ out
]
  where
    not_there : (o : Option Standing) (k : ℕ) → stands_at (Extra port k) o ≡ true → position_in port (option_map (λ (s : Standing). s.home.place) o) ≡ None → ⊥
    not_there None k e f = cc
    not_there (Some s) k e f =
        let place : Extra port k ≡ s.home.place = same_place-is (Extra port k) s.home.place e in
        let same : nat_eq port.0 port.0 ≡ true = grind (arith, nat_tests) in
        some_none k (rw (← place, same) at f)
      where
        some_none : (a : ℕ) → Some a ≡ None → ⊥
        some_none a g = cc

pub extras_count : (f : ℕ → Option ℕ) (n : ℕ) → length (filter_map f (range_with_len 0 (n + 1))) ≡ length (filter_map f (range_with_len 0 n)) + length (option_to_list (f n))
extras_count f n =
    let next : n + 1 ≡ suc n = omega arith in
    let at : 0 + n ≡ n = omega arith in
    ap (λ (m : ℕ). length (filter_map f (range_with_len 0 m))) next ∙ (ap length (extras_more f 0 n) ∙ (length-append (filter_map f (range_with_len 0 n)) (option_to_list (f (0 + n)))
    ∙ ap (λ (m : ℕ). length (filter_map f (range_with_len 0 n)) + length (option_to_list (f m))) at))

pub some_counts : (o : Option ℕ) → is_some o ≡ true → length (option_to_list o) ≡ 1
some_counts None e = cc
some_counts (Some x) e = refl

pub none_counts : (o : Option ℕ) → is_some o ≡ false → length (option_to_list o) ≡ 0
none_counts None e = refl
none_counts (Some x) e = cc

few_by : (ports : List PortPlaces) (port : ℕ) → AllByRecursion (λ (p : PortPlaces). AreSizes p.sizes) ports → extra_of ports port ≤ most_extra
few_by [] port all = omega arith
few_by (p ∷ ports) port all = elim (cases_Bool (nat_eq p.port.0 port)) [
  | inl same ↦ rw same all.0.extra
  | inr differs ↦ rw differs (few_by ports port all.1)
]

pub position-below : (h : HoldState) (port : PortId) (idx at : ℕ) → IsHold h → position_at h port idx ≡ Some at → at < most_extra
position-below h port idx at hold e =
    let few = few_by h.ports port.0 (recursion_from_All (λ (p : PortPlaces). AreSizes p.sizes) h.ports hold.sizes) in
    let stands = position-some h port idx at hold e in
    omega (arith, stands.within)

-- no position is marked at first
pub none_marked : (n k : ℕ) → get_or (replicate n false) k false ≡ false
none_marked zero k = refl
none_marked (suc n) zero = refl
none_marked (suc n) (suc k) = none_marked n k
