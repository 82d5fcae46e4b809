-- Buffers that go out before a step, and what was done before it undone: the pushed slots exchanged, and
-- the buffers in some places of a port out of them.
use Rattle.std.specs.Prelude.{ℕ, Bool, true, ◌≡◌, nat_le, if◌then◌else◌, List, [], ◌∷◌, length, Some, None}
use Rattle.nm_types.specs.declared.id.PortId.{PortId}
use Rattle.nm_types.specs.declared.id.Side.{Side}
use Rattle.nm_types.specs.declared.place.Place.{Place}
use Rattle.nm_types.specs.Places.{is_same_place}
use Rattle.nm_types.specs.Positions.{step_on}
use Rattle.nm_types.specs.Exchange.{exchanged, swapped}
use Rattle.nm_region.specs.Buffers.{Buffer}
use Rattle.nm_hold.specs.Holds.{HoldState, places_of, bufs_of, index_at, standing_at, is_named_at, with_cell, IsHold, SamePlaces}
use Rattle.nm_port.specs.RingSlots.{RingSlots}
use Rattle.nm_port.specs.Sides.{place_on, name_at}
use Rattle.nm_port.specs.Filling.{placed}
use Rattle.nm_port.specs.Exchanges.{user_position, user_place}

-- the buffer in a place, a named one, and another named one have changed places
pub record AreChanged (h now : HoldState) (place : Place) (idx was : ℕ) : Type 0 where
  pub stood : index_at h place ≡ Some was
  pub named : is_named_at h was ≡ true
  pub names_named : is_named_at h idx ≡ true
  pub places : SamePlaces (exchanged (places_of h) place idx) (places_of now)
  pub names : (i : ℕ) → is_named_at now i ≡ is_named_at h (swapped was idx i)
  pub bufs : bufs_of now ≡ bufs_of h
  pub ports : now.ports ≡ h.ports
  pub is_hold : IsHold h

-- the first pushed slots were exchanged one after another; the buffers that stood in their places, the
-- last one first
abbrev pub AreSwapped : HoldState → PortId → RingSlots → List ℕ → HoldState → Type 0
AreSwapped h id r [] now = now ≡ h
AreSwapped h id r (was ∷ before) now =
    (mid : HoldState) × (AreChanged mid now (user_place id r (length before)) (name_at r (user_position r (length before))) was × AreSwapped h id r before mid)

-- a buffer is out of the place in which it stood
pub record IsOut (h now : HoldState) (place : Place) (named : Bool) (buf : Buffer) : Type 0 where
  pub stood : standing_at h buf.index ≡ Some (placed place named buf)
  pub cell : now ≡ with_cell h buf.index None
  pub index : (q : Place) → index_at now q ≡ (if is_same_place place q then None else index_at h q)
  pub was_hold : IsHold h
  pub is_hold : IsHold now

-- some places of a port, from a position on
pub record Run : Type 0 where
  pub id : PortId
  pub side : Side
  pub size : ℕ
  pub first : ℕ

abbrev pub place_of_run : Run → ℕ → Place
place_of_run run k = place_on run.side run.id (step_on run.size run.first k)

-- their buffers went out one after another, the last one first; the first `unnamed` were no named ones
abbrev pub AreOut : HoldState → Run → ℕ → List Buffer → HoldState → Type 0
AreOut h run unnamed [] now = now ≡ h
AreOut h run unnamed (buf ∷ before) now = (mid : HoldState) × (IsOut mid now (place_of_run run (length before)) (nat_le unnamed (length before)) buf × AreOut h run unnamed before mid)

abbrev pub AreNamedAs : Bool → HoldState → Place → Type 0
AreNamedAs named h q = (idx : ℕ) → index_at h q ≡ Some idx → is_named_at h idx ≡ named
