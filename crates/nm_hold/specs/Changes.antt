-- What a buffer that comes, and bytes that are written, make of a hold.
use Rattle.std.specs.Prelude.{ℕ, Bool, ◌≡◌, if◌then◌else◌, List, Some}
use Rattle.nm_types.specs.declared.place.Place.{Place}
use Rattle.nm_types.specs.Places.{is_same_place}
use Rattle.nm_region.specs.Buffers.{Buffer}
use Rattle.nm_hold.specs.Standings.{cell_fronted}
use Rattle.nm_hold.specs.Holds.{HoldState, index_at, places_of, standing_at, with_cell, IsHold, SamePlaces}

-- nothing but a buffer came, at its index and into a place, as a named one or not
pub record HasAdded (old new : HoldState) (place : Place) (named : Bool) (buf : Buffer) : Type 0 where
  pub cell : new ≡ with_cell old buf.index (Some (record { home = record { place = place; named = named }; buf = buf }))
  pub places : (p : Place) → index_at new p ≡ (if is_same_place place p then Some buf.index else index_at old p)
  pub hold : IsHold new

-- bytes were written over the first ones of the buffer of an index, which stays where it is
pub record HasWritten (old new : HoldState) (idx : ℕ) (bytes : List ℕ) : Type 0 where
  pub cell : new ≡ with_cell old idx (cell_fronted bytes (standing_at old idx))
  pub places : SamePlaces (places_of old) (places_of new)
  pub hold : IsHold new
