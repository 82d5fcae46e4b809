-- What a user does on the rings of its ports between two calls, in the parts in which it is done.
use Rattle.std.specs.Prelude.{ℕ, ◌≡◌, Bool, not, ◌&&◌, ◌||◌, ◌==◌, nat_le, if◌then◌else◌, Option, Some, None, option_map, option_and_then}
use Rattle.nm_types.specs.declared.id.Side.{Side}
use Rattle.nm_types.specs.declared.id.Side.TheVariants.{Tx, Rx}
use Rattle.nm_types.specs.Positions.{IsRing}
use Rattle.nm_types.specs.Slots.{SlotState}
use Rattle.nm_types.specs.OwnPorts.{OwnRing, OwnState, ring_at, slot_in}
use Rattle.nm_types.specs.OwnEdits.{SlotPlace, frame_slots, can_forward}
use Rattle.nm_port.specs.RingSlots.{RingSlots, frame_ahead, head_has_slot, slots_ahead}
use Rattle.nm_own.specs.declared.acts.SlotPlace.{SlotPlace as PlaceOfSlot}

abbrev pub place_seen : PlaceOfSlot → SlotPlace
place_seen place = record { port = place.port.0; side = place.side; at = place.at }

-- what the ring on a side of a port has, if there is one, are positions of a ring
abbrev pub IsRingAt : Side → OwnState → ℕ → Type 0
IsRingAt side s id = (r : OwnRing) → ring_at side s id ≡ Some r → IsRing r.ring

-- the slot at the head of a ring that has one there
abbrev pub head_slot_of : Side → OwnRing → Option SlotState
head_slot_of side r = if head_has_slot r.ring then Some (slot_in side r r.ring.head) else None

abbrev pub head_slot_in : Side → Option OwnRing → Option SlotState
head_slot_in side ring = option_and_then (head_slot_of side) ring

-- the slot at a ring's head, wherever that is
abbrev pub front_slot_of : Side → OwnRing → SlotState
front_slot_of side r = slot_in side r r.ring.head

abbrev pub front_slot_in : Side → Option OwnRing → Option SlotState
front_slot_in side ring = option_map (front_slot_of side) ring

-- how many slots the frame at a receive ring's head has, if it may go to the other ring, and else 0
abbrev pub slots_to_go : Bool → Option OwnRing → Option OwnRing → ℕ
slots_to_go whole (Some rx) (Some tx) = if can_forward whole rx tx then frame_slots rx else 0
slots_to_go whole _ _ = 0

abbrev pub slots_to_go_at : Bool → ℕ → ℕ → OwnState → ℕ
slots_to_go_at whole from to s = slots_to_go whole (ring_at Rx s from) (ring_at Tx s to)

-- the same of the rings as they are kept
abbrev pub frame_to_go : Bool → RingSlots → RingSlots → ℕ
frame_to_go whole got free = if nat_le (frame_ahead got) (slots_ahead free.ring) && (not whole || frame_ahead got == 1) then frame_ahead got else 0
