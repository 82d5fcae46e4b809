-- The reset of a ring after a refused sync: its positions are again those last accepted, and each of
-- its user slots names the buffer in its place.
use Rattle.std.specs.Prelude.{ℕ, ◌≡◌, ◌<◌, if◌then◌else◌, List, slice_get, option_map, length}
use Rattle.nm_types.specs.declared.id.Side.{Side}
use Rattle.nm_types.specs.Positions.{RingState, is_user_slot}
use Rattle.nm_types.specs.Slots.{SlotState}
use Rattle.nm_types.specs.SyncChecks.{is_tx}

abbrev pub reset_positions : RingState → RingState
reset_positions ring = record ring { head = ring.accepted_head; cur = ring.accepted_head; tail = ring.last_tail }

-- a user slot after a reset: of a received frame the length stays
abbrev pub reset_slot : Side → ℕ → SlotState → SlotState
reset_slot side was slot = record { buf_idx = was; len = if is_tx side then 0 else slot.len; flags = 0; ptr = 0 }

-- the slot at a position after a reset, where `was` is the buffer in its place
abbrev pub slot_after_reset : Side → RingState → ℕ → ℕ → SlotState → SlotState
slot_after_reset side ring at was slot = if is_user_slot ring at then reset_slot side was slot else slot

-- all slots of a ring before and after a reset; `place` gives the buffer in the place of a position
pub record IsReset (side : Side) (place : ℕ → ℕ) (ring new_ring : RingState) (slots new_slots : List SlotState) : Type 0 where
  pub positions : new_ring ≡ reset_positions ring
  pub as_many : length new_slots ≡ length slots
  pub each_slot : (at : ℕ) → at < ring.size → slice_get new_slots at ≡ option_map (slot_after_reset side ring at (place at)) (slice_get slots at)
