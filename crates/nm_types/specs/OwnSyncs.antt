-- What a session has after each entry of its own: after an opening, a send, a put, a receive sync, a
-- reset and a detach.
use Rattle.std.specs.Prelude.{ℕ, ◌==◌, not, if◌then◌else◌, List, [], ◌∷◌, ◌++◌, length, map, filter, fold, take, drop, slice_set, slice_index_or, Option, Some, None, option_map}
use Rattle.std.specs.Option.{option_map_or}
use Rattle.std.specs.List.{zip}
use Rattle.nm_types.specs.declared.id.Side.{Side}
use Rattle.nm_types.specs.declared.id.Side.TheVariants.{Tx, Rx}
use Rattle.nm_types.specs.Positions.{RingState, step_on, opened_tx, opened_rx, advanced, user_slots, pushed_slots, pending_slots}
use Rattle.nm_types.specs.Slots.{SlotState, Pushed, slot_after_push, pushed_names, published_slot}
use Rattle.nm_types.specs.Reset.{reset_positions, reset_slot}
use Rattle.nm_types.specs.Exchange.{swapped}
use Rattle.nm_types.specs.Buffers.{cleared_but}
use Rattle.nm_types.specs.declared.id.Chain.{Chain}
use Rattle.nm_types.specs.Chain.{linked, chain_head, opened_links, link_of, chain_of}
use Rattle.nm_types.specs.OwnPorts.{OwnRing, OwnPort, OwnState, Arrival, bytes_at, ring_on, with_ring, index_of, blank_slot, buffer_in, pushed_count, pushed_on}

-- all places of a port once two buffers have changed places
abbrev pub ring_swapped : ℕ → ℕ → OwnRing → OwnRing
ring_swapped a b r = record r { held = map (swapped a b) r.held }

abbrev pub port_swapped : ℕ → ℕ → OwnPort → OwnPort
port_swapped a b p = record p { tx = option_map (ring_swapped a b) p.tx; rx = ring_swapped a b p.rx; extra = map (swapped a b) p.extra }

-- the buffer that now stands in the place of a slot; 0 where there is no such place
abbrev pub buffer_on : Side → ℕ → List OwnPort → ℕ → ℕ
buffer_on side id [] at = 0
buffer_on side id (p ∷ ports) at =
    if p.id.0 == id then option_map_or (λ (r : OwnRing). buffer_in side r at) (ring_on side p) 0
    else buffer_on side id ports at

-- The exchange of a push: for each pushed slot in order, the buffer that now stands in its place and the
-- one that the slot names change places, wherever they are.
abbrev pub after_slot : Side → ℕ → List OwnPort → Pushed → List OwnPort
after_slot side id ports pushed = map (port_swapped (buffer_on side id ports pushed.at) pushed.slot.buf_idx) ports

abbrev pub after_exchange : Side → ℕ → OwnState → OwnState
after_exchange side id s = record s { ports = fold (after_slot side id) s.ports (pushed_on side id s) }

-- the slots of a transmit ring once a push is accepted: the slots pushed announce nothing any longer
abbrev pub with_push_cleared : List SlotState → ℕ → List SlotState
with_push_cleared slots at = slice_set slots at (slot_after_push (slice_index_or slots at blank_slot))

abbrev pub slots_after_push : RingState → List SlotState → List SlotState
slots_after_push ring slots = fold with_push_cleared slots (pushed_slots ring ring.head)

-- the positions of a ring whose head is accepted, and so many of whose frames offered were taken
abbrev pub accepted : ℕ → RingState → RingState
accepted taken ring = advanced ring ring.head ring.cur (step_on ring.size ring.last_tail taken)

-- a send takes all that is pushed
abbrev pub ring_after_send : OwnRing → OwnRing
ring_after_send r = record r { ring = accepted (pushed_count r) r.ring; slots = slots_after_push r.ring r.slots }

abbrev pub own_after_send : ℕ → OwnState → OwnState
own_after_send id s = with_ring Tx id ring_after_send (after_exchange Tx id s)

-- the slots whose frames a put offers: those still pushed, and then those pushed now
abbrev pub offered_slots : OwnRing → List ℕ
offered_slots r = pending_slots r.ring ++ pushed_slots r.ring r.ring.head

-- the slots of the first frames offered, each with the buffer that came for its own
abbrev pub taken_slots : List ℕ → OwnRing → List (ℕ × ℕ)
taken_slots came r = zip (take (length came) (offered_slots r)) came

-- a slot whose frame a pipe took names the buffer that came into its place
abbrev pub with_slot_refilled : List SlotState → ℕ × ℕ → List SlotState
with_slot_refilled slots (at, buffer) = slice_set slots at (record (slice_index_or slots at blank_slot) { buf_idx = buffer })

abbrev pub with_place_refilled : List ℕ → ℕ × ℕ → List ℕ
with_place_refilled held (at, buffer) = slice_set held at buffer

abbrev pub ring_after_put : List ℕ → OwnRing → OwnRing
ring_after_put came r = record {
  ring = accepted (length came) r.ring;
  slots = fold with_slot_refilled (slots_after_push r.ring r.slots) (taken_slots came r);
  held = fold with_place_refilled r.held (taken_slots came r);
}

-- the buffers of the first frames that a put offers
abbrev pub taken_from : ℕ → OwnRing → List ℕ
taken_from count r = map (buffer_in Tx r) (take count (offered_slots r))

abbrev pub taken_on : ℕ → List OwnPort → ℕ → List ℕ
taken_on id [] count = []
taken_on id (p ∷ ports) count = if p.id.0 == id then option_map_or (taken_from count) p.tx [] else taken_on id ports count

-- bytes once some buffers have left the session, and once some have come
abbrev pub without_bytes_of : List (List ℕ) → ℕ → List (List ℕ)
without_bytes_of bytes idx = slice_set bytes idx []

abbrev pub with_arrival : List (List ℕ) → Arrival → List (List ℕ)
with_arrival bytes came = slice_set bytes came.buffer (cleared_but came.bytes)

abbrev pub bytes_after : List ℕ → List Arrival → List (List ℕ) → List (List ℕ)
bytes_after gone came bytes = fold with_arrival (fold without_bytes_of bytes gone) came

abbrev pub buffers_of_arrivals : List Arrival → List ℕ
buffers_of_arrivals came = map (λ (a : Arrival). a.buffer) came

-- a put whose first frames went to the peer, for each of which a buffer came; where the peer is gone
-- none came, and the frames stay pushed
abbrev pub after_taking : ℕ → List Arrival → OwnState → OwnState
after_taking id came s = record (with_ring Tx id (ring_after_put (buffers_of_arrivals came)) s) { bytes = bytes_after (taken_on id s.ports (length came)) came s.bytes }

abbrev pub own_after_put : ℕ → List Arrival → OwnState → OwnState
own_after_put id came s = after_taking id came (after_exchange Tx id s)

-- a receive ring whose pushed slots' buffers went back, and behind whose other slots these parts stand
abbrev pub published : Arrival → SlotState
published came = published_slot came.buffer (length came.bytes) came.rest

abbrev pub ring_after_receive : List Arrival → OwnRing → OwnRing
ring_after_receive came r = record {
  ring = accepted (length came) r.ring;
  slots = drop (pushed_count r) r.slots ++ map published came;
  held = drop (pushed_count r) r.held ++ buffers_of_arrivals came;
}

-- a receive sync gives back the buffers that its pushed slots name
abbrev pub back_on : ℕ → OwnState → List ℕ
back_on id s = pushed_names (pushed_on Rx id s)

abbrev pub own_after_receive : ℕ → List Arrival → OwnState → OwnState
own_after_receive id came s = record (with_ring Rx id (ring_after_receive came) (after_exchange Rx id s)) { bytes = bytes_after (back_on id s) came s.bytes }

-- a reset ring: its positions are those last accepted, and each user slot names the buffer in its place
abbrev pub with_slot_reset : Side → OwnRing → List SlotState → ℕ → List SlotState
with_slot_reset side r slots at =
    slice_set slots (index_of side r.ring at) (reset_slot side (buffer_in side r at) (slice_index_or slots (index_of side r.ring at) blank_slot))

abbrev pub ring_after_reset : Side → OwnRing → OwnRing
ring_after_reset side r = record r { ring = reset_positions r.ring; slots = fold (with_slot_reset side r) r.slots (user_slots r.ring) }

abbrev pub own_after_reset : ℕ → Side → OwnState → OwnState
own_after_reset id side s = with_ring side id (ring_after_reset side) s

-- an opened port: each transmit slot names the buffer in its place, and each extra buffer links to the
-- next; a monitor has no transmit ring
abbrev pub opened_slot : ℕ → SlotState
opened_slot buffer = published_slot buffer 0 0

abbrev pub opened_tx_ring : ℕ → List ℕ → Option OwnRing
opened_tx_ring size buffers = if size == 0 then None else Some (record { ring = opened_tx size; slots = map opened_slot buffers; held = buffers })

abbrev pub opened_port : ℕ → List ℕ → ℕ → ℕ → List ℕ → OwnPort
opened_port id name tx rx buffers = record {
  id = record { 0 = id };
  name = name;
  tx = opened_tx_ring tx (take tx buffers);
  rx = record { ring = opened_rx rx; slots = []; held = [] };
  extra = drop tx buffers;
  extra_head = chain_head (drop tx buffers);
}

abbrev pub with_link : List (List ℕ) → ℕ × ℕ → List (List ℕ)
with_link bytes (buffer, next) = slice_set bytes buffer (linked next (cleared_but []))

abbrev pub with_links : List ℕ → List (List ℕ) → List (List ℕ)
with_links extras bytes = fold with_link bytes (zip extras (opened_links extras))

abbrev pub own_after_open : ℕ → List ℕ → ℕ → ℕ → List Arrival → OwnState → OwnState
own_after_open id name tx rx came s = record s {
  ports = s.ports ++ opened_port id name tx rx (buffers_of_arrivals came) ∷ [];
  bytes = with_links (drop tx (buffers_of_arrivals came)) (fold with_arrival s.bytes came);
}

-- a detached port is gone, with the buffers that were named
abbrev pub own_after_finish : ℕ → List ℕ → OwnState → OwnState
own_after_finish id gone s = record s { ports = filter (λ (p : OwnPort). not (p.id.0 == id)) s.ports; bytes = fold without_bytes_of s.bytes gone }

-- the chain of a port's extra buffers, as a detach counts it
abbrev pub chain_in : OwnState → OwnPort → Chain
chain_in s p = chain_of p.extra (λ idx. link_of (bytes_at s idx)) p.extra_head
