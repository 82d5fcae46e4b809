-- A named buffer is held.
use Rattle.std.proofs.Common.{ℕ, ◌≡◌, Bool, true, false, nat_eq, List, [], ◌∷◌, map, Some, inl, inr, refl, sym, ◌∙◌, ap}
use Rattle.std.specs.List.{AllByRecursion, IsDistinct}
use Rattle.std.proofs.lemmas.Bool.{cases_Bool}
use Rattle.nm_types.specs.declared.place.Place.{Place}
use Rattle.nm_types.specs.Places.{Held, PortRings, held_at, is_same_place, is_named_place, IsNamed}
use Rattle.nm_hold.specs.Holds.{standing_at}
use Rattle.nm_hold.specs.Laws.{HoldsNamed, NamedAreHeld, NamedStandSomewhere}
use Rattle.nm_hold.proofs.Spots.{nat_eq-is, same_place-is, same_place-refl}
use Rattle.nm_hold.proofs.Shown.{named_stands}

-- a place that is none of a list's holds nothing there
not_held : (held : List Held) (place : Place) (b : ℕ) → AllByRecursion (λ y. is_same_place place y ≡ false) (map (λ (h : Held). h.place) held) → held_at held place ≡ Some b → ⊥
not_held [] place b apart e = cc
not_held (h ∷ held) place b apart e = not_held held place b apart.1 (rw apart.0 at e)

holds_more : (ports : List PortRings) (h : Held) (held : List Held) (idx : ℕ) → AllByRecursion (λ y. is_same_place h.place y ≡ false) (map (λ (o : Held). o.place) held) → HoldsNamed ports held idx → HoldsNamed ports (h ∷ held) idx
holds_more ports h held idx apart found = elim (cases_Bool (is_same_place found.place h.place)) [
  | inl same ↦ absurd (not_held held h.place idx apart (ap (held_at held) (sym (same_place-is found.place h.place same)) ∙ found.holds))
  | inr differs ↦ record { place = found.place; holds = rw differs found.holds; named = found.named }
]

pub named_are_held : NamedAreHeld
unfolding IsDistinct
named_are_held ports [] idx once named = cc
named_are_held ports (h ∷ held) idx once named = by_name (is_named_place ports h.place) refl (named_are_held ports held idx once.1)
  where
    by_name : (b : Bool) → is_named_place ports h.place ≡ b → (IsNamed ports held idx → HoldsNamed ports held idx) → HoldsNamed ports (h ∷ held) idx
    by_name false e rest = holds_more ports h held idx once.0 (rest (rw e at named))
    by_name true e rest = elim (cases_Bool (nat_eq h.buffer idx)) [
      | inl same ↦ record { place = h.place; holds = rw (same_place-refl h.place) (ap (λ (n : ℕ). Some n) (nat_eq-is h.buffer idx same)); named = e }
      | inr differs ↦ holds_more ports h held idx once.0 (rest (rw (e, differs) at named))
    ]

pub named_stand_somewhere : NamedStandSomewhere
named_stand_somewhere h idx hold named =
    let found = named_stands (standing_at h idx) named in
    (found.0.home.place, (hold.standing idx found.0 found.1).there)

pub ruleset naming_laws = (named_are_held, named_stand_somewhere)
