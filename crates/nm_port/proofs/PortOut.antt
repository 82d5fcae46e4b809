-- A port that is taken out of a list, at the first place that has its id.
use Rattle.std.proofs.Common.{ℕ, suc, ◌≡◌, ◌<◌, ◌≤◌, ◌+◌, Bool, true, false, cond, nat_eq, nat_lt, List, [], ◌∷◌, length, map, slice_index_or, Option, Some, None, inl, inr, refl, sym, ◌∙◌, ap, arith}
use Rattle.std.specs.Prelude.{IsSome, position, remove, drop}
use Rattle.std.specs.List.{AllByRecursion, position_or_len}
use Rattle.std.proofs.lemmas.Bool.{cases_Bool}
use Rattle.std.proofs.lemmas.Bool.Decides.{nat_tests}
use Rattle.std.proofs.lemmas.Option.{same_Some}
use Rattle.nm_hold.specs.Offsets.{has_port, ArePortsOnce}
use Rattle.nm_hold.specs.Holds.{HoldState}
use Rattle.nm_hold.proofs.Spots.{nat_eq-is}
use Rattle.nm_types.specs.OwnPorts.{port_with_id, OwnPort}
use Rattle.nm_types.proofs.Tests.{less_is}
use Rattle.nm_port.specs.declared.port.UserPort.{UserPort}
use Rattle.nm_port.specs.Own.{own_seen, port_at, places_of_port, HasBackRoom, HaveBackRoom}
use Rattle.nm_port.specs.Closing.{has_id, others}

abbrev pub IsOther : ℕ → UserPort → Type 0
IsOther id p = nat_eq p.id.0 id ≡ false

-- no other port has the id of the one before them
pub rest_other : (ports : List UserPort) (id : ℕ) → has_port (map places_of_port ports) id ≡ false → AllByRecursion (IsOther id) ports
rest_other [] id none = tt
rest_other (p ∷ ports) id none = elim (cases_Bool (nat_eq p.id.0 id)) [
  | inl here ↦ absurd (let e = rw here at none in cc)
  | inr other ↦ (other, rest_other ports id (rw other at none))
]

pub lacks_port : (h : HoldState) (ports : List UserPort) (id : ℕ) → port_at ports id ≡ None → port_with_id (own_seen h ports) id ≡ None
lacks_port h [] id e = refl
lacks_port h (x ∷ ports) id e = elim (cases_Bool (nat_eq x.id.0 id)) [
  | inl here ↦ absurd (let found = rw here at e in cc)
  | inr other ↦ rw other (lacks_port h ports id (rw other at e))
]

pub port_not_found : (h : HoldState) (ports : List UserPort) (id : ℕ) → port_at ports id ≡ None → IsSome (port_with_id (own_seen h ports) id) → ⊥
port_not_found h ports id none some = none_some (rw (lacks_port h ports id none) at some)
  where
    none_some : IsSome {T = OwnPort} None → ⊥
    none_some some = cc

is_no_less : (a b : ℕ) → nat_lt a b ≡ false → b ≤ a
is_no_less a b e = grind (arith, nat_tests)

pub drop_none : {X : Type 0} (xs : List X) → drop 0 xs ≡ xs
drop_none [] = refl
drop_none (x ∷ xs) = refl

found_by : (b : Bool) (n count at : ℕ) → nat_lt n count ≡ b → cond b (Some n) None ≡ Some at → (n ≡ at) × (n < count)
found_by true n count at less e = (same_Some n at e, less_is n count less)
found_by false n count at less e = absurd cc

missed_by : (b : Bool) (n count : ℕ) → nat_lt n count ≡ b → cond b (Some n) None ≡ None → count ≤ n
missed_by true n count less e = absurd cc
missed_by false n count less e = is_no_less n count less

one_more : (n : ℕ) → 1 + n ≡ suc n
one_more n = omega arith

module _ (id : ℕ) where
  abbrev pub first : List UserPort → ℕ
  first ports = position_or_len (has_id id) ports

  pub first_here : (p : UserPort) (ports : List UserPort) → nat_eq p.id.0 id ≡ true → first (p ∷ ports) ≡ 0
  first_here p ports here = rw here refl

  pub first_next : (p : UserPort) (ports : List UserPort) → nat_eq p.id.0 id ≡ false → first (p ∷ ports) ≡ suc (first ports)
  first_next p ports other = rw other (one_more (first ports))

  found_out : (ports : List UserPort) (own : UserPort) → first ports < length ports → own ≡ slice_index_or ports (first ports) own → port_at ports id ≡ Some own
  found_out [] own within is = absurd (omega (arith, within))
  found_out (p ∷ ports) own within is = elim (cases_Bool (nat_eq p.id.0 id)) [
    | inl here ↦ (let own_is : own ≡ p = is ∙ ap (λ (k : ℕ). slice_index_or (p ∷ ports) k own) (first_here p ports here) in rw here (ap (λ (x : UserPort). Some x) (sym own_is)))
    | inr other ↦ (let next = first_next p ports other in
        let rest : own ≡ slice_index_or ports (first ports) own = is ∙ ap (λ (k : ℕ). slice_index_or (p ∷ ports) k own) next in
        rw other (found_out ports own (omega (arith, within, next)) rest))
  ]

  others_all : (ports : List UserPort) → AllByRecursion (IsOther id) ports → others id ports ≡ ports
  others_all [] none = refl
  others_all (p ∷ ports) none = rw none.0 (ap (λ (xs : List UserPort). p ∷ xs) (others_all ports none.1))

  others_out : (ports : List UserPort) → first ports < length ports → ArePortsOnce (map places_of_port ports) → remove ports (first ports) ≡ others id ports
  others_out [] within once = absurd (omega (arith, within))
  others_out (p ∷ ports) within once = elim (cases_Bool (nat_eq p.id.0 id)) [
    | inl here ↦ ap (remove (p ∷ ports)) (first_here p ports here) ∙ (drop_none ports ∙ rw here (sym (others_all ports (rest_other ports id (rw (nat_eq-is p.id.0 id here) at once.0)))))
    | inr other ↦ (let next = first_next p ports other in
        ap (remove (p ∷ ports)) next ∙ rw other (ap (λ (xs : List UserPort). p ∷ xs) (others_out ports (omega (arith, within, next)) once.1)))
  ]

  none_out : (ports : List UserPort) → length ports ≤ first ports → port_at ports id ≡ None
  none_out [] beyond = refl
  none_out (p ∷ ports) beyond = elim (cases_Bool (nat_eq p.id.0 id)) [
    | inl here ↦ (let e = first_here p ports here in absurd (omega (arith, beyond, e)))
    | inr other ↦ (let next = first_next p ports other in rw other (none_out ports (omega (arith, beyond, next))))
  ]

  pub taken_is : (ports : List UserPort) (at : ℕ) (own : UserPort) → position (has_id id) ports ≡ Some at → own ≡ slice_index_or ports at own → port_at ports id ≡ Some own
  taken_is ports at own found is =
      let w = found_by (nat_lt (first ports) (length ports)) (first ports) (length ports) at refl found in
      found_out ports own w.1 (is ∙ ap (λ (k : ℕ). slice_index_or ports k own) (sym w.0))

  pub others_are_left : (ports : List UserPort) (at : ℕ) → position (has_id id) ports ≡ Some at → ArePortsOnce (map places_of_port ports) → remove ports at ≡ others id ports
  others_are_left ports at found once =
      let w = found_by (nat_lt (first ports) (length ports)) (first ports) (length ports) at refl found in
      ap (remove ports) (sym w.0) ∙ others_out ports w.1 once

  -- where the first port of the id stands, and that there is none
  pub found_at : (ports : List UserPort) (at : ℕ) → position (has_id id) ports ≡ Some at → at ≡ first ports
  found_at ports at found = sym (found_by (nat_lt (first ports) (length ports)) (first ports) (length ports) at refl found).0

  within_all : (ports : List UserPort) → first ports ≤ length ports
  within_all [] = omega arith
  within_all (p ∷ ports) = elim (cases_Bool (nat_eq p.id.0 id)) [
    | inl here ↦ (let e = first_here p ports here in omega (arith, e))
    | inr other ↦ (let next = first_next p ports other in let rest = within_all ports in omega (arith, next, rest))
  ]

  pub missed_at : (ports : List UserPort) → position (has_id id) ports ≡ None → length ports ≡ first ports
  missed_at ports none =
      let beyond = missed_by (nat_lt (first ports) (length ports)) (first ports) (length ports) refl none in
      let within = within_all ports in
      omega (arith, beyond, within)

  pub none_there : (ports : List UserPort) → position (has_id id) ports ≡ None → IsSome (port_at ports id) → ⊥
  none_there ports none some = no_some (rw (none_out ports (missed_by (nat_lt (first ports) (length ports)) (first ports) (length ports) refl none)) at some)
    where
      no_some : IsSome {T = UserPort} None → ⊥
      no_some some = cc

  pub some_there : (h : HoldState) (ports : List UserPort) → IsSome (port_with_id (own_seen h ports) id) → IsSome (port_at ports id)
  some_there h ports some = by_port (port_at ports id) refl
    where
      by_port : (o : Option UserPort) → port_at ports id ≡ o → IsSome o
      by_port None e = absurd (port_not_found h ports id e some)
      by_port (Some p) e = refl

  pub back_one : (ports : List UserPort) (p : UserPort) → port_at ports id ≡ Some p → HaveBackRoom ports → HasBackRoom p
  back_one [] p found have = absurd cc
  back_one (x ∷ ports) p found have = elim (cases_Bool (nat_eq x.id.0 id)) [
    | inl here ↦ (let is : x ≡ p = same_Some x p (rw here at found) in rw (← is) have.0)
    | inr other ↦ back_one ports p (rw other at found) have.1
  ]
