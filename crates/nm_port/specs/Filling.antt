-- Buffers that come into the empty places of a port's row, from the last place to the first.
use Rattle.std.specs.Prelude.{ℕ, Bool, false, ◌≡◌, ◌+◌, nat_lt, if◌then◌else◌, List, [], ◌∷◌, ◌++◌, length, map, slice_set, Option, Some, None}
use Rattle.nm_types.specs.declared.id.PortId.{PortId}
use Rattle.nm_types.specs.declared.place.Place.{Place}
use Rattle.nm_types.specs.declared.place.Place.TheVariants.{Tx, Extra}
use Rattle.nm_types.specs.Places.{is_same_place}
use Rattle.nm_types.specs.Buffers.{IsBufferIndex, cleared_but}
use Rattle.nm_types.specs.Chain.{linked, chain_head}
use Rattle.nm_types.specs.SyncChecks.{contains_index}
use Rattle.nm_region.specs.Buffers.{Buffer, indices_of}
use Rattle.nm_hold.specs.declared.standing.Standing.{Standing}
use Rattle.nm_hold.specs.Holds.{HoldState, buffers_of, index_at, standing_at, IsHold}
use Rattle.nm_port.specs.Own.{bytes_in_cell, AreWhole}
use Rattle.nm_port.specs.Regions.{AreOf, HoldsOf}
use Rattle.nm_port.specs.declared.fill.Row.{Row}
use Rattle.nm_port.specs.declared.fill.Row.TheVariants.{Slots, Extras}

abbrev pub place_in : PortId → Row → ℕ → Place
place_in port Slots at = Tx port at
place_in port Extras at = Extra port at

-- the bytes of a buffer that comes into a row, behind which the next one stands
abbrev pub first_bytes : Row → ℕ → List ℕ
first_bytes Slots next = cleared_but []
first_bytes Extras next = linked next (cleared_but [])

abbrev pub placed : Place → Bool → Buffer → Standing
placed place named buf = record { home = record { place = place; named = named }; buf = buf }

-- a buffer of the pool that stands nowhere
abbrev pub IsAway : HoldState → ℕ → Type 0
IsAway h idx = IsBufferIndex (buffers_of h) idx × (standing_at h idx ≡ None)

-- what stands in a place, whether it is a named one, and the bytes, once these buffers stand in a row
-- from a position on
abbrev pub index_with : PortId → Row → ℕ → List ℕ → Place → Option ℕ → Option ℕ
index_with port row at [] q was = was
index_with port row at (idx ∷ others) q was = if is_same_place (place_in port row at) q then Some idx else index_with port row (at + 1) others q was

abbrev pub named_with : PortId → Row → ℕ → ℕ → List ℕ → (Place → Bool) → Place → Bool
named_with port row named at [] was q = was q
named_with port row named at (idx ∷ others) was q = if is_same_place (place_in port row at) q then nat_lt at named else named_with port row named (at + 1) others was q

abbrev pub bytes_with : Row → List ℕ → List (List ℕ) → List (List ℕ)
bytes_with row [] bytes = bytes
bytes_with row (idx ∷ others) bytes = slice_set (bytes_with row others bytes) idx (first_bytes row (chain_head others))

-- a buffer is a named one where a place is
abbrev pub FlaggedBy : HoldState → (Place → Bool) → Type 0
FlaggedBy h named = (idx : ℕ) (s : Standing) → standing_at h idx ≡ Some s → s.home.named ≡ named s.home.place

pub record AreFilledWith (h new : HoldState) (port : PortId) (row : Row) (named at : ℕ) (idxs : List ℕ) : Type 0 where
  pub index : (q : Place) → index_at new q ≡ index_with port row at idxs q (index_at h q)
  pub others : (i : ℕ) → contains_index idxs i ≡ false → standing_at new i ≡ standing_at h i
  pub bytes : map bytes_in_cell new.cells ≡ bytes_with row idxs (map bytes_in_cell h.cells)
  pub flags : (was : Place → Bool) → FlaggedBy h was → FlaggedBy new (named_with port row named at idxs was)
  pub whole : AreWhole h → AreWhole new
  pub ports : new.ports ≡ h.ports
  pub count : buffers_of new ≡ buffers_of h
  pub is_hold : IsHold new

-- buffers of which the last ones stand in the row, the first of these at the place behind those left
pub record ArePartlyIn (h now : HoldState) (port : PortId) (row : Row) (named : ℕ) (all left : List Buffer) (next : ℕ) : Type 0 where
  pub done : List Buffer
  pub whole : left ++ done ≡ all
  pub filled : AreFilledWith h now port row named (length left) (indices_of done)
  pub next_is : next ≡ chain_head (indices_of done)
  pub region : (region : ℕ) → AreOf region all → HoldsOf region h → HoldsOf region now
