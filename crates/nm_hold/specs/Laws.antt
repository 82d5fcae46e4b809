-- Laws of places and named buffers.
use Rattle.std.specs.Prelude.{ℕ, ◌≡◌, true, List, map, Some}
use Rattle.std.specs.List.{IsDistinct}
use Rattle.nm_types.specs.declared.place.Place.{Place}
use Rattle.nm_types.specs.Places.{Held, PortRings, held_at, is_same_place, is_named_place, IsNamed}
use Rattle.nm_hold.specs.Holds.{HoldState, index_at, is_named_at, IsHold}

-- no place is there twice
abbrev pub EachPlaceOnce : List Held → Type 0
EachPlaceOnce held = IsDistinct is_same_place (map (λ (h : Held). h.place) held)

-- a place that holds the buffer, and whose buffer is a named one
pub record HoldsNamed (ports : List PortRings) (held : List Held) (idx : ℕ) : Type 0 where
  pub place : Place
  pub holds : held_at held place ≡ Some idx
  pub named : is_named_place ports place ≡ true

abbrev pub NamedAreHeld : Type 0
NamedAreHeld = (ports : List PortRings) (held : List Held) (idx : ℕ) → EachPlaceOnce held → IsNamed ports held idx → HoldsNamed ports held idx

abbrev pub NamedStandSomewhere : Type 0
NamedStandSomewhere = (h : HoldState) (idx : ℕ) → IsHold h → is_named_at h idx ≡ true → (place : Place) × (index_at h place ≡ Some idx)
