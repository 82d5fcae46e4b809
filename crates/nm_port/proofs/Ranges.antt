-- Positions of a ring among slots from one on, going round.
use Rattle.std.proofs.Common.{Bool, ap, arith, false, inl, inr, map, nat_eq, nat_lt, refl, suc, sym, true, zero, ℕ, ◌&&◌, ◌+◌, ◌<◌, ◌||◌, ◌∙◌, ◌≡◌, ◌≤◌, List, [], ◌∷◌}
use Rattle.std.proofs.lemmas.Bool.{cases_Bool}
use Rattle.nm_types.specs.Positions.{dist, slots_from, step_on}
use Rattle.nm_types.proofs.RingSteps.{dist-step_on, step_on-dist}
use Rattle.nm_types.proofs.Tests.{false_true, same_true}
use Rattle.std.specs.List.{list_any, range_with_len}
use Rattle.nm_hold.proofs.Spots.{nat_eq-is}
use Rattle.std.proofs.lemmas.Bool.Decides.{nat_tests}
use Rattle.nm_types.specs.declared.id.PortId.{PortId}
use Rattle.nm_types.specs.declared.id.Side.TheVariants.{Rx, Tx}
use Rattle.nm_types.specs.declared.id.Side.{Side}
use Rattle.nm_port.specs.Exchanges.{is_among}
use Rattle.nm_port.specs.Sides.{place_on}

-- positions among slots from one on
abbrev in_range : ℕ → ℕ → ℕ → Bool
in_range a n d = nat_lt a (d + 1) && nat_lt d (a + n)

pub is_slot_from : (size first n at : ℕ) → first < size → n ≤ size → at < size → list_any (λ x. nat_eq x at) (slots_from size first n) ≡ nat_lt (dist size first at) n
is_slot_from size first n at f few inside = over 0 n (omega arith) ∙ from_zero (dist size first at) n
  where
    one : (k : ℕ) → k < size → nat_eq (step_on size first k) at ≡ nat_eq k (dist size first at)
    one k below = by_test (nat_eq k (dist size first at)) refl
      where
        by_test : (b : Bool) → nat_eq k (dist size first at) ≡ b → nat_eq (step_on size first k) at ≡ b
        by_test true e =
            let same : k ≡ dist size first at = nat_eq-is k (dist size first at) e in
            let there : step_on size first k ≡ at = (ap (step_on size first) same ∙ step_on-dist size first at f inside) in
            same_true (step_on size first k) at there
        by_test false e = elim (cases_Bool (nat_eq (step_on size first k) at)) [
          | inl same ↦ (let is : step_on size first k ≡ at = nat_eq-is (step_on size first k) at same in
              let k_is : k ≡ dist size first at = sym (dist-step_on size first k f below) ∙ ap (dist size first) is in
              false_true (sym e ∙ same_true k (dist size first at) k_is))
          | inr other ↦ other
        ]

    from_zero : (d n : ℕ) → in_range 0 n d ≡ nat_lt d n
    from_zero d n = grind (arith, nat_tests)

    over : (a n : ℕ) → a + n ≤ size → list_any (λ x. nat_eq x at) (map (step_on size first) (range_with_len a n)) ≡ in_range a n (dist size first at)
    over a zero room = none a (dist size first at)
      where
        none : (a d : ℕ) → false ≡ in_range a 0 d
        none a d = grind (arith, nat_tests)
    over a (suc n) room = rw (one a (omega arith), over (a + 1) n (omega arith)) (more a n (dist size first at))
      where
        more : (a n d : ℕ) → (nat_eq a d || in_range (a + 1) n d) ≡ in_range a (suc n) d
        more a n d = grind (arith, nat_tests)

-- a place among slots of its side
pub among_slots : (s : Side) (id : PortId) (ats : List ℕ) (at : ℕ) → is_among (map (place_on s id) ats) (place_on s id at) ≡ list_any (λ x. nat_eq x at) ats
among_slots Tx id [] at = refl
among_slots Tx id (x ∷ ats) at = rw (same_true id.0 id.0 refl) (ap (λ (b : Bool). nat_eq x at || b) (among_slots Tx id ats at))
among_slots Rx id [] at = refl
among_slots Rx id (x ∷ ats) at = rw (same_true id.0 id.0 refl) (ap (λ (b : Bool). nat_eq x at || b) (among_slots Rx id ats at))
