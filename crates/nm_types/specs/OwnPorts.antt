-- What a session has of its own, as the user of netmap(4) sees it: ports with their rings and slots,
-- the buffers in their places, and the bytes of these buffers.
use Rattle.std.specs.Prelude.{ℕ, Bool, false, ◌==◌, ◌+◌, if◌then◌else◌, List, [], ◌++◌, length, map, find, flat_map, slice_index, slice_index_or, slice_set, replicate, Option, Some, None, option_map, option_and_then}
use Rattle.std.specs.Option.{option_map_or}
use Rattle.std.specs.Str.{bytes_eq}
use Rattle.nm_types.specs.declared.id.PortId.{PortId}
use Rattle.nm_types.specs.declared.id.Side.{Side}
use Rattle.nm_types.specs.declared.id.Side.TheVariants.{Tx, Rx}
use Rattle.nm_types.specs.declared.fault.SyncFault.{SyncFault}
use Rattle.nm_types.specs.Positions.{RingState, dist, user_slots, pushed_slots}
use Rattle.nm_types.specs.Slots.{SlotState, Pushed}
use Rattle.nm_types.specs.SyncChecks.{refusal_of}
use Rattle.nm_types.specs.Names.{is_pipe_name}

-- A ring of a session. Of a transmit ring the slots and the buffers held stand by position. Of a receive
-- ring they are those of the user's slots alone, from the accepted head on; the others are the kernel
-- side's. A place without a buffer has 0.
pub record OwnRing : Type 0 where
  pub ring : RingState
  pub slots : List SlotState
  pub held : List ℕ

-- a port of a session; a monitor has no transmit ring, and `extra` has the buffers in the extra positions
pub record OwnPort : Type 0 where
  pub id : PortId
  pub name : List ℕ
  pub tx : Option OwnRing
  pub rx : OwnRing
  pub extra : List ℕ
  pub extra_head : ℕ

-- the ports in the order in which they were opened, and at each index the bytes of the buffer of that
-- index, if it is one of the session's, and else no bytes
pub record OwnState : Type 0 where
  pub pool : ℕ
  pub ports : List OwnPort
  pub bytes : List (List ℕ)

-- a buffer that comes to a session, with the bytes of a part of a frame in it, behind which so many
-- parts follow; all its other bytes are zero
pub record Arrival : Type 0 where
  pub buffer : ℕ
  pub bytes : List ℕ
  pub rest : ℕ

-- a session of a pool of so many buffers that has none
abbrev pub empty_own : ℕ → OwnState
empty_own pool = record { pool = pool; ports = []; bytes = replicate (pool + 2) [] }

-- the bytes of a buffer, and a session whose buffer has these bytes
abbrev pub bytes_at : OwnState → ℕ → List ℕ
bytes_at s idx = slice_index_or s.bytes idx []

abbrev pub with_bytes : ℕ → List ℕ → OwnState → OwnState
with_bytes idx bytes s = record s { bytes = slice_set s.bytes idx bytes }

-- the port of an id, and of a name
abbrev pub port_with_id : OwnState → ℕ → Option OwnPort
port_with_id s id = find (λ (p : OwnPort). p.id.0 == id) s.ports

abbrev pub port_with_name : OwnState → List ℕ → Option OwnPort
port_with_name s name = find (λ (p : OwnPort). bytes_eq name p.name) s.ports

abbrev pub ring_on : Side → OwnPort → Option OwnRing
ring_on Tx p = p.tx
ring_on Rx p = Some p.rx

-- the ring on a side of a port
abbrev pub ring_at : Side → OwnState → ℕ → Option OwnRing
ring_at side s id = option_and_then (ring_on side) (port_with_id s id)

-- the ports once the one of this id is changed
abbrev pub port_if : ℕ → (OwnPort → OwnPort) → OwnPort → OwnPort
port_if id change p = if p.id.0 == id then change p else p

abbrev pub with_port : ℕ → (OwnPort → OwnPort) → OwnState → OwnState
with_port id change s = record s { ports = map (port_if id change) s.ports }

abbrev pub with_ring_on : Side → (OwnRing → OwnRing) → OwnPort → OwnPort
with_ring_on Tx change p = record p { tx = option_map change p.tx }
with_ring_on Rx change p = record p { rx = change p.rx }

abbrev pub with_ring : Side → ℕ → (OwnRing → OwnRing) → OwnState → OwnState
with_ring side id change s = with_port id (with_ring_on side change) s

-- where the slot of a position, and the buffer in its place, stand in the lists of a ring
abbrev pub index_of : Side → RingState → ℕ → ℕ
index_of Tx ring at = at
index_of Rx ring at = dist ring.size ring.accepted_head at

abbrev pub blank_slot : SlotState
blank_slot = record { buf_idx = 0; len = 0; flags = 0; ptr = 0 }

abbrev pub slot_in : Side → OwnRing → ℕ → SlotState
slot_in side r at = slice_index_or r.slots (index_of side r.ring at) blank_slot

abbrev pub buffer_in : Side → OwnRing → ℕ → ℕ
buffer_in side r at = slice_index r.held (index_of side r.ring at)

abbrev pub with_slot : Side → ℕ → SlotState → OwnRing → OwnRing
with_slot side at slot r = record r { slots = slice_set r.slots (index_of side r.ring at) slot }

-- the buffers in a port's places, in the order in which a detach names them: transmit slots, receive
-- slots of the user, extra positions
abbrev pub held_if : Option OwnRing → List ℕ
held_if None = []
held_if (Some r) = r.held

abbrev pub buffers_in : OwnPort → List ℕ
buffers_in p = held_if p.tx ++ (p.rx.held ++ p.extra)

-- those that the user may name: in user slots and extra positions
abbrev pub user_buffers_if : Option OwnRing → List ℕ
user_buffers_if None = []
user_buffers_if (Some r) = map (buffer_in Tx r) (user_slots r.ring)

abbrev pub named_in : OwnPort → List ℕ
named_in p = user_buffers_if p.tx ++ (p.rx.held ++ p.extra)

abbrev pub named_of : OwnState → List ℕ
named_of s = flat_map named_in s.ports

-- what a sync finds pushed, and the first check that refuses it
abbrev pub pushed_at : Side → OwnRing → ℕ → Pushed
pushed_at side r at = record { at = at; slot = slot_in side r at; was = buffer_in side r at }

abbrev pub pushed_in : Side → OwnRing → List Pushed
pushed_in side r = map (pushed_at side r) (pushed_slots r.ring r.ring.head)

abbrev pub pushed_count : OwnRing → ℕ
pushed_count r = length (pushed_slots r.ring r.ring.head)

-- a port each of whose slots is a frame: an end of a pipe
abbrev pub is_whole : OwnPort → Bool
is_whole p = is_pipe_name p.name

abbrev pub is_whole_at : OwnState → ℕ → Bool
is_whole_at s id = option_map_or is_whole (port_with_id s id) false

abbrev pub refusal_in : Side → OwnState → OwnPort → OwnRing → Option SyncFault
refusal_in side s p r = refusal_of side (is_whole p) s.pool (named_of s) r.ring (pushed_in side r)

-- the first refusal of a sync of the ring on a side of the port of an id; none where there is no such ring
abbrev pub refusal_at : Side → ℕ → OwnState → Option SyncFault
refusal_at side id s = option_and_then (λ (p : OwnPort). option_and_then (refusal_in side s p) (ring_on side p)) (port_with_id s id)

-- what a sync of a port's ring finds pushed; nothing where there is no such ring
abbrev pub pushed_on : Side → ℕ → OwnState → List Pushed
pushed_on side id s = option_map_or (pushed_in side) (ring_at side s id) []
