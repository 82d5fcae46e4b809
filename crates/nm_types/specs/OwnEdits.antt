-- What a user writes on its own side between its calls: positions, slots, bytes and links. Each edit
-- does nothing where the port, the ring, the slot or the buffer is not the user's.
use Rattle.std.specs.Prelude.{ℕ, zero, suc, Bool, true, false, not, ◌&&◌, ◌||◌, ◌==◌, ◌+◌, nat_le, nat_lt, is_none, if◌then◌else◌, List, [], ◌∷◌, ◌++◌, length, map, drop, position, slice_index, Option, Some, None, option_and_then}
use Rattle.std.specs.Option.{option_map_or}
use Rattle.std.specs.Int.RustNames.{bit_or}
use Rattle.bitflags.specs.Sets.{without}
use Rattle.nm_types.specs.declared.id.Side.{Side}
use Rattle.nm_types.specs.declared.id.Side.TheVariants.{Tx, Rx}
use Rattle.nm_types.specs.declared.slot.SlotWrite.{SlotWrite}
use Rattle.nm_types.specs.declared.slot.SlotWrite.TheVariants.{BufIdx, Len, Flags, Ptr}
use Rattle.nm_types.specs.Parts.{slots_of_length, parts_of}
use Rattle.nm_types.specs.Positions.{dist, step_on, is_user_slot, slots_from}
use Rattle.nm_types.specs.Slots.{SlotState, goes_on, buf_changed, no_learn, indirect, more_fragments}
use Rattle.nm_types.specs.SyncChecks.{ring_refusal, contains_index}
use Rattle.nm_types.specs.Chain.{linked}
use Rattle.nm_types.specs.OwnPorts.{OwnRing, OwnPort, OwnState, bytes_at, with_bytes, port_with_id, ring_at, with_port, with_ring, slot_in, with_slot, named_of, is_whole_at}

-- any numbers may be stored as head and cur
abbrev pub ring_at_positions : ℕ → ℕ → OwnRing → OwnRing
ring_at_positions head cur r = record r { ring = record r.ring { head = head; cur = cur } }

abbrev pub with_head : Side → ℕ → ℕ → OwnState → OwnState
with_head side id head s = with_ring side id (λ (r : OwnRing). ring_at_positions head r.ring.cur r) s

abbrev pub with_cur : Side → ℕ → ℕ → OwnState → OwnState
with_cur side id cur s = with_ring side id (λ (r : OwnRing). ring_at_positions r.ring.head cur r) s

abbrev pub with_positions : Side → ℕ → ℕ → ℕ → OwnState → OwnState
with_positions side id head cur s = with_ring side id (ring_at_positions head cur) s

-- all received frames are given back
abbrev pub with_all_back : ℕ → OwnState → OwnState
with_all_back id s = with_ring Rx id (λ (r : OwnRing). ring_at_positions r.ring.tail r.ring.tail r) s

-- a user slot, and the ring once it is changed
abbrev pub user_slot : Side → OwnRing → ℕ → Option SlotState
user_slot side r at = if is_user_slot r.ring at then Some (slot_in side r at) else None

abbrev pub user_slot_at : Side → OwnState → ℕ → ℕ → Option SlotState
user_slot_at side s id at = option_and_then (λ (r : OwnRing). user_slot side r at) (ring_at side s id)

abbrev pub with_user_slot : Side → ℕ → ℕ → SlotState → OwnState → OwnState
with_user_slot side id at slot s = with_ring side id (λ (r : OwnRing). if is_user_slot r.ring at then with_slot side at slot r else r) s

-- one field of a user slot is written
abbrev pub slot_written : SlotWrite → SlotState → SlotState
slot_written (BufIdx idx) slot = record slot { buf_idx = idx }
slot_written (Len len) slot = record slot { len = len }
slot_written (Flags flags) slot = record slot { flags = flags }
slot_written (Ptr ptr) slot = record slot { ptr = ptr }

abbrev pub with_written_slot : Side → ℕ → ℕ → SlotWrite → OwnState → Option SlotState → OwnState
with_written_slot side id at write s None = s
with_written_slot side id at write s (Some slot) = with_user_slot side id at (slot_written write slot) s

abbrev pub with_slot_field : Side → ℕ → ℕ → SlotWrite → OwnState → OwnState
with_slot_field side id at write s = with_written_slot side id at write s (user_slot_at side s id at)

-- two user slots change the buffers that they name, and say so unless it is done quietly
abbrev pub announced_if : Bool → ℕ → ℕ
announced_if true flags = bit_or flags buf_changed
announced_if false flags = flags

abbrev pub slot_naming : Bool → ℕ → SlotState → SlotState
slot_naming announce idx slot = record slot { buf_idx = idx; flags = announced_if announce slot.flags }

pub record SlotPlace : Type 0 where
  pub side : Side
  pub port : ℕ
  pub at : ℕ

abbrev pub slot_of_place : OwnState → SlotPlace → Option SlotState
slot_of_place s place = user_slot_at place.side s place.port place.at

abbrev pub with_slot_of_place : SlotPlace → SlotState → OwnState → OwnState
with_slot_of_place place slot s = with_user_slot place.side place.port place.at slot s

abbrev pub with_two_slots : Bool → SlotPlace → SlotPlace → OwnState → Option SlotState → Option SlotState → OwnState
with_two_slots announce here there s (Some a) (Some b) =
    with_slot_of_place there (slot_naming announce a.buf_idx b) (with_slot_of_place here (slot_naming announce b.buf_idx a) s)
with_two_slots announce here there s _ _ = s

abbrev pub with_slots_swapped : Bool → SlotPlace → SlotPlace → OwnState → OwnState
with_slots_swapped announce here there s = with_two_slots announce here there s (slot_of_place s here) (slot_of_place s there)

-- a ring whose positions fit, and which has so many slots from its head to before its tail
abbrev pub has_slots : ℕ → OwnRing → Bool
has_slots count r = is_none (ring_refusal r.ring r.ring.head r.ring.cur) && nat_le count (dist r.ring.size r.ring.head r.ring.tail)

-- room for a frame of this length
abbrev pub has_room : OwnState → ℕ → ℕ → Bool
has_room s id len = option_map_or (has_slots (slots_of_length len)) (ring_at Tx s id) false

-- A frame at a transmit ring's head, each of its parts in a slot: the part's bytes are written over those
-- of the buffer that the slot names, if that is a named one; the slot has its length and no mark of a
-- former frame, but tells whether the frame goes on; head and cur are the next position.
abbrev pub frame_marks : ℕ
frame_marks = no_learn + indirect + more_fragments

abbrev pub flags_of_part : Bool → ℕ → ℕ
flags_of_part more flags = if more then bit_or (without 16 flags frame_marks) more_fragments else without 16 flags frame_marks

abbrev pub slot_with_part : Bool → List ℕ → SlotState → SlotState
slot_with_part more part slot = record slot { len = length part; flags = flags_of_part more slot.flags }

abbrev pub stepped : OwnRing → OwnRing
stepped r = ring_at_positions (step_on r.ring.size r.ring.head 1) (step_on r.ring.size r.ring.head 1) r

abbrev pub ring_with_part : Bool → List ℕ → OwnRing → OwnRing
ring_with_part more part r = stepped (with_slot Tx r.ring.head (slot_with_part more part (slot_in Tx r r.ring.head)) r)

abbrev pub with_written : ℕ → List ℕ → OwnState → OwnState
with_written idx bytes s = if contains_index (named_of s) idx then with_bytes idx (bytes ++ drop (length bytes) (bytes_at s idx)) s else s

abbrev pub with_part_on : ℕ → Bool → List ℕ → OwnState → Option OwnRing → OwnState
with_part_on id more part s None = s
with_part_on id more part s (Some r) = with_ring Tx id (ring_with_part more part) (with_written (slot_in Tx r r.ring.head).buf_idx part s)

abbrev pub with_part : ℕ → Bool → List ℕ → OwnState → OwnState
with_part id more part s = with_part_on id more part s (ring_at Tx s id)

abbrev pub with_parts : ℕ → List (List ℕ) → OwnState → OwnState
with_parts id [] s = s
with_parts id (part ∷ parts) s = with_parts id parts (with_part id (not (length parts == 0)) part s)

abbrev pub with_frame : ℕ → List ℕ → OwnState → OwnState
with_frame id bytes s = if has_room s id (length bytes) then with_parts id (parts_of bytes) s else s

-- Forwarding without a copy, frame by frame: while a whole frame stands at the receive ring's head and
-- the transmit ring has as many slots, their slots change the buffers that they name and say so, the
-- transmit slots take the lengths and tell whether the frame goes on, and all four positions go on.
abbrev pub all_stepped : OwnRing → OwnRing
all_stepped r = ring_at_positions (step_on r.ring.size r.ring.head 1) (step_on r.ring.size r.ring.cur 1) r

abbrev pub ring_forwarding : Side → SlotState → OwnRing → OwnRing
ring_forwarding side slot r = all_stepped (with_slot side r.ring.head slot r)

abbrev pub flags_marked : Bool → ℕ → ℕ
flags_marked more flags = if more then bit_or flags more_fragments else without 16 flags more_fragments

abbrev pub sent_slot : SlotState → SlotState → SlotState
sent_slot got free = record (slot_naming true got.buf_idx free) { len = got.len; flags = flags_marked (goes_on got) (announced_if true free.flags) }

abbrev pub with_slot_forwarded : ℕ → ℕ → SlotState → SlotState → OwnState → OwnState
with_slot_forwarded from to got free s =
    with_ring Tx to (ring_forwarding Tx (sent_slot got free))
    (with_ring Rx from (ring_forwarding Rx (slot_naming true free.buf_idx got)) s)

-- the two slots at the heads, where there are both rings
abbrev pub with_heads_forwarded : ℕ → ℕ → OwnState → Option OwnRing → Option OwnRing → OwnState
with_heads_forwarded from to s (Some rx) (Some tx) = with_slot_forwarded from to (slot_in Rx rx rx.ring.head) (slot_in Tx tx tx.ring.head) s
with_heads_forwarded from to s _ _ = s

abbrev pub with_slots_forwarded : ℕ → ℕ → ℕ → OwnState → OwnState
with_slots_forwarded zero from to s = s
with_slots_forwarded (suc count) from to s = with_slots_forwarded count from to (with_heads_forwarded from to s (ring_at Rx s from) (ring_at Tx s to))

-- how many slots of a row there are up to the first in which a frame ends; 0 where none does
abbrev pub ends_here : SlotState → Bool
ends_here slot = not (goes_on slot)

abbrev pub slots_to_end : List SlotState → ℕ
slots_to_end slots = option_map_or suc (position ends_here slots) 0

-- how many slots the frame at a receive ring's head has; 0 where it does not end before the tail
abbrev pub slots_before_tail : OwnRing → List SlotState
slots_before_tail r = map (slot_in Rx r) (slots_from r.ring.size r.ring.head (dist r.ring.size r.ring.head r.ring.tail))

abbrev pub frame_slots : OwnRing → ℕ
frame_slots r = slots_to_end (slots_before_tail r)

-- the frame at the head may go: it ends before the tail, the positions of both rings fit, the other ring
-- has as many slots, and it takes one where each slot is to be a frame
abbrev pub can_forward : Bool → OwnRing → OwnRing → Bool
can_forward whole rx tx = nat_lt 0 (frame_slots rx) && (has_slots (frame_slots rx) rx && (has_slots (frame_slots rx) tx && (not whole || frame_slots rx == 1)))

-- one more frame, and then what the others make of it; nothing where it may not go
abbrev pub with_next_forwarded : (OwnState → OwnState) → Bool → ℕ → ℕ → OwnState → Option OwnRing → Option OwnRing → OwnState
with_next_forwarded others whole from to s (Some rx) (Some tx) =
    if can_forward whole rx tx then others (with_slots_forwarded (frame_slots rx) from to s) else s
with_next_forwarded others whole from to s _ _ = s

-- up to so many frames; `whole` says that each slot of the other port is a frame
abbrev pub frames_forwarded : Bool → ℕ → ℕ → ℕ → OwnState → OwnState
frames_forwarded whole zero from to s = s
frames_forwarded whole (suc count) from to s = with_next_forwarded (frames_forwarded whole count from to) whole from to s (ring_at Rx s from) (ring_at Tx s to)

abbrev pub with_forwarded : ℕ → ℕ → ℕ → OwnState → OwnState
with_forwarded count from to s = frames_forwarded (is_whole_at s to) count from to s

-- The link of an extra position, counted from 1, to another; 0 instead of the first one is the chain's
-- head, and 0 instead of the second ends the chain.
abbrev pub extra_number : OwnPort → ℕ → ℕ
extra_number p zero = 0
extra_number p (suc at) = slice_index p.extra at

abbrev pub with_head_of_chain : ℕ → ℕ → OwnState → OwnState
with_head_of_chain id idx s = with_port id (λ (p : OwnPort). record p { extra_head = idx }) s

abbrev pub link_in : ℕ → OwnPort → ℕ → ℕ → OwnState → OwnState
link_in id p zero next s = with_head_of_chain id next s
link_in id p (suc at) next s = with_bytes (slice_index p.extra at) (linked next (bytes_at s (slice_index p.extra at))) s

abbrev pub with_extra_link_in : ℕ → ℕ → ℕ → OwnState → Option OwnPort → OwnState
with_extra_link_in id from to s None = s
with_extra_link_in id from to s (Some p) =
    if nat_le from (length p.extra) && nat_le to (length p.extra) then link_in id p from (extra_number p to) s else s

abbrev pub with_extra_link : ℕ → ℕ → ℕ → OwnState → OwnState
with_extra_link id from to s = with_extra_link_in id from to s (port_with_id s id)
