-- A ring with its slots: those of a transmit ring by position, those of a receive ring from the accepted
-- head on, as many as are the user's.
use Rattle.std.specs.Prelude.{ℕ, Bool, true, ◌≡◌, ◌<◌, ◌+◌, ◌==◌, ◌&&◌, not, is_none, List, length, map, Option, Some, None, if◌then◌else◌, slice_index_or, slice_set}
use Rattle.bitflags.specs.Sets.{without}
use Rattle.nm_types.specs.declared.id.Side.{Side}
use Rattle.nm_types.specs.declared.id.Side.TheVariants.{Tx, Rx}
use Rattle.nm_types.specs.Positions.{RingState, IsRing, dist, step_on, is_user_slot, slots_from, kernel_count}
use Rattle.nm_types.specs.Slots.{SlotState}
use Rattle.nm_types.specs.Reset.{reset_slot}
use Rattle.nm_types.specs.SyncChecks.{ring_refusal}
use Rattle.nm_types.specs.OwnPorts.{OwnRing, index_of, blank_slot}
use Rattle.nm_types.specs.OwnEdits.{frame_marks, flags_of_part, slots_to_end}

pub record RingSlots : Type 0 where
  pub side : Side
  pub ring : RingState
  pub slots : List SlotState

-- the ring of a session with these buffers in its places
abbrev pub with_held : List ℕ → RingSlots → OwnRing
with_held held r = record { ring = r.ring; slots = r.slots; held = held }

abbrev pub slot_count : Side → RingState → ℕ
slot_count Tx ring = ring.size
slot_count Rx ring = dist ring.size ring.accepted_head ring.last_tail

-- a ring, and as many slots as its side wants; there is always room for one of each position
pub record IsRingSlots (r : RingSlots) : Type 0 where
  pub ring : IsRing r.ring
  pub count : length r.slots ≡ slot_count r.side r.ring

abbrev pub at_positions : ℕ → ℕ → RingSlots → RingSlots
at_positions head cur r = record r { ring = record r.ring { head = head; cur = cur } }

abbrev pub slot_of_user : RingSlots → ℕ → Option SlotState
slot_of_user r at = if is_user_slot r.ring at then Some (slice_index_or r.slots (index_of r.side r.ring at) blank_slot) else None

abbrev pub with_slot_of_user : ℕ → SlotState → RingSlots → RingSlots
with_slot_of_user at slot r = if is_user_slot r.ring at then record r { slots = slice_set r.slots (index_of r.side r.ring at) slot } else r

abbrev pub with_slot_reset_at : ℕ → ℕ → RingSlots → RingSlots
with_slot_reset_at at was r = record r { slots = slice_set r.slots (index_of r.side r.ring at) (reset_slot r.side was (slice_index_or r.slots (index_of r.side r.ring at) blank_slot)) }

abbrev pub slot_at : RingSlots → ℕ → SlotState
slot_at r at = slice_index_or r.slots (index_of r.side r.ring at) blank_slot

-- the slot of any position is written, if there is one
abbrev pub with_slot_at : ℕ → SlotState → RingSlots → RingSlots
with_slot_at at slot r = record r { slots = slice_set r.slots (index_of r.side r.ring at) slot }

-- head and cur go on by one, or both to the slot behind the head
abbrev pub both_stepped : RingSlots → RingSlots
both_stepped r = at_positions (step_on r.ring.size r.ring.head 1) (step_on r.ring.size r.ring.cur 1) r

abbrev pub head_stepped : RingSlots → RingSlots
head_stepped r = at_positions (step_on r.ring.size r.ring.head 1) (step_on r.ring.size r.ring.head 1) r

-- a slot with a frame of that length, and no mark of a former one
abbrev pub slot_framed : ℕ → SlotState → SlotState
slot_framed len slot = record slot { len = len; flags = without 16 slot.flags frame_marks }

-- a slot with a part of that length, behind which others follow
abbrev pub slot_going_on : ℕ → SlotState → SlotState
slot_going_on len slot = record slot { len = len; flags = flags_of_part true slot.flags }

abbrev pub head_has_slot : RingState → Bool
head_has_slot ring = is_none (ring_refusal ring ring.head ring.cur) && not (ring.head == ring.tail)

-- how many slots there are from the head to before the tail, if the positions fit
abbrev pub slots_ahead : RingState → ℕ
slots_ahead ring = if is_none (ring_refusal ring ring.head ring.cur) then dist ring.size ring.head ring.last_tail else 0

-- how many slots the frame at the head has, if the positions fit and it ends before the tail, and else 0
abbrev pub frame_ahead : RingSlots → ℕ
frame_ahead r = slots_to_end (map (slot_at r) (slots_from r.ring.size r.ring.head (slots_ahead r.ring)))

abbrev pub slot_before_tail : RingSlots → Option SlotState
slot_before_tail r = if head_has_slot r.ring then Some (slot_at r r.ring.head) else None

-- how many slots are the kernel side's, behind the tail, once the push up to the head is accepted
abbrev pub count_behind_tail : RingState → ℕ
count_behind_tail ring = kernel_count ring.size ring.head ring.last_tail

-- some slots from the one on that is so many steps behind the accepted head, whose positions do not go
-- round
pub record AreSideBySide (r : RingSlots) (steps : ℕ) (slots : List SlotState) : Type 0 where
  pub stand : (j : ℕ) → j < length slots → slice_index_or slots j blank_slot ≡ slot_at r (step_on r.ring.size r.ring.accepted_head (steps + j))
  pub positions : (j : ℕ) → j < length slots → step_on r.ring.size r.ring.accepted_head (steps + j) ≡ step_on r.ring.size r.ring.accepted_head steps + j
