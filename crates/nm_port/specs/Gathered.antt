-- Frames that are gathered from slots one by one, the last of them not yet ended where a slot goes on.
use Rattle.std.specs.Prelude.{ℕ, Bool, false, if◌then◌else◌, List, [], ◌∷◌, ◌++◌, map, take}
use Rattle.nm_types.specs.Frames.{Frame, extended}
use Rattle.nm_types.specs.Positions.{pushed_slots}
use Rattle.nm_types.specs.Slots.{SlotState, frame_at, goes_on}
use Rattle.nm_port.specs.RingSlots.{RingSlots, slot_at}

-- a slot more: its bytes go behind those of the last frame, if that goes on, or else it begins one
abbrev pub with_gathered : (ℕ → List ℕ) → List Frame → Bool → SlotState → List Frame
with_gathered bytes_of frames begun slot =
    if begun then extended (take slot.len (bytes_of slot.buf_idx)) frames else frames ++ frame_at bytes_of slot ∷ []

abbrev pub gathered : (ℕ → List ℕ) → List Frame → Bool → List SlotState → List Frame
gathered bytes_of frames begun [] = frames
gathered bytes_of frames begun (slot ∷ slots) = gathered bytes_of (with_gathered bytes_of frames begun slot) (goes_on slot) slots

-- whether a frame goes on behind slots
abbrev pub goes_on_behind : Bool → List SlotState → Bool
goes_on_behind begun [] = begun
goes_on_behind begun (slot ∷ slots) = goes_on_behind (goes_on slot) slots

abbrev pub slots_pushed : RingSlots → List SlotState
slots_pushed r = map (slot_at r) (pushed_slots r.ring r.ring.head)
