-- The exchange of a push: for each pushed slot in order, the buffer in its place changes places with
-- the buffer that the slot names.
use Rattle.std.specs.Prelude.{ℕ, ◌==◌, ◌≡◌, true, if◌then◌else◌, List, [], ◌∷◌, map, fold, Option, Some, None}
use Rattle.nm_types.specs.declared.place.Place.{Place}
use Rattle.nm_types.specs.Places.{Held, held_at, is_same_place}

-- a buffer's index with two indices changed for each other
abbrev pub swapped : ℕ → ℕ → ℕ → ℕ
swapped a b idx = if idx == a then b else if idx == b then a else idx

-- all places once the buffers `was` and `idx` have changed places
abbrev pub swapped_places : ℕ → ℕ → List Held → List Held
swapped_places was idx held = map (λ (h : Held). record h { buffer = swapped was idx h.buffer }) held

abbrev pub swapped_if : Option ℕ → ℕ → List Held → List Held
swapped_if None idx held = held
swapped_if (Some was) idx held = swapped_places was idx held

abbrev pub exchanged : List Held → Place → ℕ → List Held
exchanged held place idx = swapped_if (held_at held place) idx held

-- a pushed slot's place, and the buffer that the slot names
pub record Naming : Type 0 where
  pub place : Place
  pub idx : ℕ

abbrev pub after_push : List Held → List Naming → List Held
after_push held namings = fold (λ (all : List Held) (n : Naming). exchanged all n.place n.idx) held namings

-- no buffer stands in two places
abbrev pub EachBufferOnce : List Held → Type 0
EachBufferOnce held = (p q : Place) (b : ℕ) → held_at held p ≡ Some b → held_at held q ≡ Some b → is_same_place p q ≡ true

-- each pushed slot's place holds some buffer
abbrev pub EachIsHeld : List Held → List Naming → Type 0
EachIsHeld held [] = Unit {0}
EachIsHeld held (n ∷ ns) = ((was : ℕ) × (held_at held n.place ≡ Some was)) × EachIsHeld held ns

-- each pushed slot's place holds the buffer that the slot names
abbrev pub EachNamed : List Held → List Naming → Type 0
EachNamed held [] = Unit {0}
EachNamed held (n ∷ ns) = (held_at held n.place ≡ Some n.idx) × EachNamed held ns
