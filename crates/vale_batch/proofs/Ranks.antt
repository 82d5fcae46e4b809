-- The place of a port among rising ones.
use Rattle.std.proofs.Common.{ℕ, zero, suc, true, false, ◌≡◌, ◌<◌, List, [], ◌∷◌, length, map, get_or, inl, inr, refl, sym, ◌∙◌, ap, subst, arith}
use Rattle.std.specs.Prelude.{All, IfSome, slice_get, not}
use Rattle.std.specs.List.{list_any}
use Rattle.std.specs.List.Sorted.{IsPartitionedBy, IsPartitionPoint}
use Rattle.std.proofs.lemmas.Bool.{cases_lt, and_from, or_from, ne_eqb, ltb-true, ltb-false, lt-ltb}
use Rattle.std.proofs.lemmas.List.{get_or-map, length-map}
use Rattle.nm_types.specs.declared.id.PortId.{PortId}
use Rattle.vale_batch.specs.declared.alone.Own.{Own}
use Rattle.vale_batch.specs.Wants.{Owned, owned, number_of, numbers_of, port_number, IsRising, is_to, is_before, stands_at, is_owned_by, are_apart, own_at}
use Rattle.vale_batch.specs.declared.looking.Looked.{Looked}

-- the number of the port at a place
number-at : (all : List Own) (i : ℕ) (d : Own) → i < length all → get_or (numbers_of all) i d.to.0 ≡ (get_or all i d).to.0
number-at all i d within =
    get_or-map number_of (map owned all) i (owned d) d.to.0 (let size = length-map all owned in omega (arith, within, size))
    ∙ ap number_of (get_or-map owned all i d (owned d) within)

length-numbers : (all : List Own) → length (numbers_of all) ≡ length all
length-numbers all = length-map (map owned all) number_of ∙ length-map all owned

rises : (all : List Own) (i j : ℕ) (d : Own) → IsRising (numbers_of all) → i < j → j < length all → (get_or all i d).to.0 < (get_or all j d).to.0
rises all i j d rising less within =
    let size = length-numbers all in
    let up = rising i j d.to.0 less (omega (arith, within, size)) in
    let low = number-at all i d (omega (arith, less, within)) in
    let high = number-at all j d within in
    omega (arith, up, low, high)

pub partitioned : (port : ℕ) (all : List Own) → IsRising (numbers_of all) → IsPartitionedBy (is_before port) all
partitioned port all rising i j d le within before = elim (cases_lt i j) [
  | inl less ↦
      let higher = ltb-true (get_or all j d).to.0 port before in
      let lower = rises all i j d rising less within in
      lt-ltb (get_or all i d).to.0 port (omega (arith, higher, lower))
  | inr same ↦
      let equal : j ≡ i = omega (arith, le, same) in
      ap (λ (k : ℕ). is_before port (get_or all k d)) (sym equal) ∙ before
]

-- a port that stands at a place
pub stands-there : (port at : ℕ) (all : List Own) → stands_at port at all ≡ true → (at < length all) × IfSome (slice_get all at) (λ (own : Own). is_to port own ≡ true)
stands-there port at [] is = absurd (let wrong : false ≡ true = is in cc)
stands-there port zero (own ∷ all) is = (omega arith, is)
stands-there port (suc at) (own ∷ all) is = let rest = stands-there port at all is in let less = rest.0 in (omega (arith, less), rest.1)

not-at : (port at : ℕ) (all : List Own) (d : Own) → at < length all → stands_at port at all ≡ false → is_to port (get_or all at d) ≡ false
not-at port at [] d within is = absurd (omega (arith, within))
not-at port zero (own ∷ all) d within is = is
not-at port (suc at) (own ∷ all) d within is = not-at port at all d (omega (arith, within)) is

pub none-there : (port at : ℕ) (all : List Own) → IsRising (numbers_of all) → IsPartitionPoint (λ (own : Own). is_before port own ≡ true) (λ (own : Own). is_before port own ≡ false) all at
    → stands_at port at all ≡ false → All (λ (own : Own). is_to port own ≡ false) all
none-there port at all rising point other = λ k d within. elim (cases_lt k at) [
  | inl less ↦
      let before = ltb-true (get_or all k d).to.0 port (point.0 k d (omega arith) less) in
      ne_eqb (get_or all k d).to.0 port (λ same. omega (arith, before, same))
  | inr behind ↦ elim (cases_lt at k) [
    | inl more ↦
        let low = ltb-false (get_or all at d).to.0 port (point.1 at d (omega arith) (omega (arith, more, within))) in
        let up = rises all at k d rising more within in
        ne_eqb (get_or all k d).to.0 port (λ same. omega (arith, low, up, same))
    | inr not_more ↦
        let here : at ≡ k = omega (arith, behind, not_more) in
        ap (λ (i : ℕ). is_to port (get_or all i d)) (sym here) ∙ not-at port at all d (omega (arith, here, within)) other
  ]
]

-- rising ports are different
none-above : (port : ℕ) (all : List Owned) → ((k d : ℕ) → k < length (map number_of all) → port < get_or (map number_of all) k d) → list_any (is_owned_by port) all ≡ false
none-above port [] above = refl
none-above port (w ∷ all) above =
    let first = above 0 0 (omega arith) in
    or_from (is_owned_by port w) (list_any (is_owned_by port) all) (ne_eqb w.to.0 port (λ same. omega (arith, first, same)))
    (none-above port all (λ k d within. above (suc k) d (omega (arith, within))))

pub rising-apart : (all : List Owned) → IsRising (map number_of all) → are_apart all ≡ true
rising-apart [] rising = refl
rising-apart (own ∷ all) rising =
    let none = none-above own.to.0 all (λ k d within. rising 0 (suc k) d (omega arith) (omega (arith, within))) in
    and_from (not (list_any (is_owned_by own.to.0) all)) (are_apart all) (ap not none)
    (rising-apart all (λ i j d less within. rising (suc i) (suc j) d (omega (arith, less)) (omega (arith, within))))

pub numbers-owned : (looked : List Looked) (ports : List PortId) → map number_of (map (own_at looked) ports) ≡ map port_number ports
numbers-owned looked [] = refl
numbers-owned looked (port ∷ ports) = ap (λ (ns : List ℕ). port.0 ∷ ns) (numbers-owned looked ports)

pub rising-own : (looked : List Looked) (ports : List PortId) (all : List Own) → map owned all ≡ map (own_at looked) ports → IsRising (map port_number ports) → IsRising (numbers_of all)
rising-own looked ports all is rising = subst IsRising (sym (ap (map number_of) is ∙ numbers-owned looked ports)) rising

pub ruleset places = (partitioned)
