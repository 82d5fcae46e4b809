-- What a session finds before the tail of a port's receive ring, and what its port has read.
use Rattle.std.specs.Prelude.{ℕ, ◌≡◌, ◌-◌, nat_lt, false, if◌then◌else◌, List, [], map, take, slice_get, unwrap_or, Option, None}
use Rattle.std.specs.Option.{option_map_or}
use Rattle.nm_types.specs.declared.id.Side.TheVariants.{Rx}
use Rattle.nm_types.specs.Frames.{Frame}
use Rattle.nm_types.specs.Positions.{RingState, dist, slots_from}
use Rattle.nm_types.specs.Slots.{SlotState}
use Rattle.nm_types.specs.OwnPorts.{OwnRing, OwnState, blank_slot, ring_at}
use Rattle.nm_types.specs.OwnEdits.{user_slot, user_slot_at}
use Rattle.nm_port.specs.Gathered.{gathered}
use Rattle.nm_own.specs.ExtraChain.{named_bytes}
use Rattle.vale_entry.specs.declared.entry.Entry.{Entry}
use Rattle.vale_entry.specs.Legal.{world_of}
use Rattle.vale_entry.specs.Delivered.{of_entry_in, read_by}
use Rattle.nm_user.specs.declared.receiving.Received.{Received}
use Rattle.nm_user.specs.Sessions.{SessionState, IsThere}
use Rattle.nm_user.specs.Receives.{IsReceived}

-- no bytes for no frame
abbrev pub bytes_or_none : Option (List ℕ) → List ℕ
bytes_or_none frame = option_map_or (λ (bytes : List ℕ). bytes) frame []

-- the bytes of a buffer that the user may name, and none of another
abbrev pub readable_bytes : OwnState → ℕ → List ℕ
readable_bytes s idx = bytes_or_none (named_bytes s idx)

-- the user's slot at a position, a blank one where there is none
abbrev pub slot_or_blank : OwnRing → ℕ → SlotState
slot_or_blank r at = unwrap_or (user_slot Rx r at) blank_slot

abbrev pub slot_or_blank_at : OwnState → ℕ → ℕ → SlotState
slot_or_blank_at s id at = unwrap_or (user_slot_at Rx s id at) blank_slot

-- how many slots there are from a position on to before the tail; none where it is no position
abbrev pub count_to_tail : ℕ → RingState → ℕ
count_to_tail at ring = if nat_lt at ring.size then dist ring.size at ring.tail else 0

abbrev pub slots_to_tail : ℕ → OwnRing → List SlotState
slots_to_tail at r = map (slot_or_blank r) (slots_from r.ring.size at (count_to_tail at r.ring))

-- the frames in these slots, each joined of its parts; one that does not end in them has what is there
abbrev pub frames_in_slots : OwnState → ℕ → OwnRing → List Frame
frames_in_slots s at r = gathered (readable_bytes s) [] false (slots_to_tail at r)

abbrev pub frames_from : OwnState → ℕ → ℕ → List Frame
frames_from s id at = option_map_or (frames_in_slots s at) (ring_at Rx s id) []

abbrev pub bytes_of_frame : Frame → List ℕ
bytes_of_frame frame = frame.bytes

-- the frames that the entry of a number reads at a port
abbrev pub read_of : ℕ → List Entry → ℕ → ℕ → List Frame
read_of pool history id number =
    option_map_or (of_entry_in read_by id (world_of pool (take (number - 1) history))) (slice_get history (number - 1)) []

-- what a receive sync brings stands from where the tail was on, in order: what its entry reads
abbrev pub ReceivedAreRead : Type 0
ReceivedAreRead =
    (s t : SessionState) (id : ℕ) (received : Received) → IsThere None s → IsThere None t → (is : IsReceived s t id received)
    → map bytes_of_frame (frames_from t.own id is.at.port.rx.ring.tail)
    ≡ map bytes_of_frame (read_of t.fixed.pool t.knows.seen id received.entry)
