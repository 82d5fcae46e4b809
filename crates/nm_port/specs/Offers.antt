-- What a put offers: the frames of the slots that are still pushed, and then of those pushed now.
use Rattle.std.specs.Prelude.{ℕ, false, List, [], map, take, ◌++◌}
use Rattle.std.specs.Option.{option_map_or}
use Rattle.nm_types.specs.declared.id.Side.TheVariants.{Tx}
use Rattle.nm_types.specs.Positions.{pending_slots, pushed_slots}
use Rattle.nm_types.specs.Slots.{SlotState}
use Rattle.nm_types.specs.Frames.{Frame}
use Rattle.nm_types.specs.OwnPorts.{OwnRing, OwnState, bytes_at, ring_at, slot_in}
use Rattle.nm_types.specs.OwnSyncs.{offered_slots}
use Rattle.nm_hold.specs.Holds.{HoldState}
use Rattle.nm_port.specs.RingSlots.{RingSlots, slot_at}
use Rattle.nm_port.specs.Own.{bytes_in_hold}

-- the frame of a slot, never marked
abbrev pub unmarked_frame : (ℕ → List ℕ) → SlotState → Frame
unmarked_frame bytes_of slot = record { bytes = take slot.len (bytes_of slot.buf_idx); no_learn = false }

abbrev pub offered_in : OwnState → OwnRing → List Frame
offered_in s r = map (λ (at : ℕ). unmarked_frame (bytes_at s) (slot_in Tx r at)) (offered_slots r)

abbrev pub frames_offered : ℕ → OwnState → List Frame
frames_offered id s = option_map_or (offered_in s) (ring_at Tx s id) []

-- the same of a hold and a ring
abbrev pub offer_seen : HoldState → RingSlots → ℕ → Frame
offer_seen h r at = unmarked_frame (bytes_in_hold h) (slot_at r at)

abbrev pub offers_seen : HoldState → RingSlots → List Frame
offers_seen h r = map (offer_seen h r) (pending_slots r.ring ++ pushed_slots r.ring r.ring.head)

-- the lengths of the slots offered
abbrev pub lengths_in : OwnRing → List ℕ
lengths_in r = map (λ (at : ℕ). (slot_in Tx r at).len) (offered_slots r)

abbrev pub offered_lengths : ℕ → OwnState → List ℕ
offered_lengths id s = option_map_or lengths_in (ring_at Tx s id) []

abbrev pub length_seen : RingSlots → ℕ → ℕ
length_seen r at = (slot_at r at).len

abbrev pub lengths_seen : RingSlots → List ℕ
lengths_seen r = map (length_seen r) (pending_slots r.ring ++ pushed_slots r.ring r.ring.head)
