-- A session's own side as it is kept: its ports with their rings, and a hold of the buffers in their
-- places; and how it is seen.
use Rattle.std.specs.Prelude.{ℕ, Bool, false, ◌≡◌, ◌≤◌, ◌==◌, ◌&&◌, nat_lt, is_some, if◌then◌else◌, List, [], ◌∷◌, ◌++◌, length, map, find, flat_map, Option, Some, None, option_map, option_and_then}
use Rattle.std.specs.Option.{option_map_or}
use Rattle.std.specs.List.{range_with_len, list_any}
use Rattle.nm_types.specs.declared.id.PortId.{PortId}
use Rattle.nm_types.specs.declared.id.Side.{Side}
use Rattle.nm_types.specs.declared.id.Side.TheVariants.{Tx, Rx}
use Rattle.nm_types.specs.declared.place.Place.{Place}
use Rattle.nm_types.specs.declared.place.Place.TheVariants as place
use Rattle.nm_types.specs.Positions.{RingState, IsRing, is_user_slot, user_slots}
use Rattle.nm_types.specs.Limits.{buffer_bytes}
use Rattle.nm_types.specs.Frames.{Frame}
use Rattle.nm_types.specs.Names.{is_pipe_name}
use Rattle.nm_types.specs.Slots.{frame_at, joined_frames}
use Rattle.nm_types.specs.Places.{is_same_place}
use Rattle.nm_types.specs.OwnPorts.{OwnRing, OwnPort, OwnState}
use Rattle.nm_hold.specs.declared.standing.Standing.{Standing}
use Rattle.nm_hold.specs.Holds.{HoldState, buffers_of, standing_at, index_at}
use Rattle.nm_hold.specs.declared.table.PortPlaces.{PortPlaces}
use Rattle.nm_hold.specs.Offsets.{count_of}
use Rattle.nm_port.specs.declared.port.UserPort.{UserPort}
use Rattle.nm_port.specs.RingSlots.{RingSlots, with_held, slot_at}
use Rattle.nm_port.specs.Gathered.{slots_pushed}
use Rattle.nm_port.specs.Sides.{place_on, number_at}

-- the positions whose places a ring has
abbrev pub positions_of : Side → RingState → List ℕ
positions_of Tx ring = range_with_len 0 ring.size
positions_of Rx ring = user_slots ring

abbrev pub number_on : HoldState → Side → PortId → ℕ → ℕ
number_on h side id at = number_at h (place_on side id at)

abbrev pub held_on : HoldState → Side → PortId → RingState → List ℕ
held_on h side id ring = map (number_on h side id) (positions_of side ring)

abbrev pub ring_seen : HoldState → PortId → RingSlots → OwnRing
ring_seen h id r = with_held (held_on h r.side id r.ring) r

abbrev pub extra_number_at : HoldState → PortId → ℕ → ℕ
extra_number_at h id at = number_at h (place.Extra id at)

abbrev pub port_seen : HoldState → UserPort → OwnPort
port_seen h p = record {
  id = p.id;
  name = p.name;
  tx = option_map (ring_seen h p.id) p.tx;
  rx = ring_seen h p.id p.rx;
  extra = map (extra_number_at h p.id) (range_with_len 0 p.extra);
  extra_head = p.extra_head;
}

abbrev pub bytes_in_cell : Option Standing → List ℕ
bytes_in_cell cell = option_map_or (λ (s : Standing). s.buf.bytes) cell []

abbrev pub bytes_in_hold : HoldState → ℕ → List ℕ
bytes_in_hold h idx = bytes_in_cell (standing_at h idx)

abbrev pub own_seen : HoldState → List UserPort → OwnState
own_seen h ports = record { pool = buffers_of h; ports = map (port_seen h) ports; bytes = map bytes_in_cell h.cells }

-- the places whose buffers the user may name
abbrev pub named_ring_places : PortId → RingSlots → List Place
named_ring_places id r = map (place_on r.side id) (user_slots r.ring)

abbrev pub named_tx_places : PortId → Option RingSlots → List Place
named_tx_places id None = []
named_tx_places id (Some r) = named_ring_places id r

abbrev pub named_places_of : UserPort → List Place
named_places_of p = named_tx_places p.id p.tx ++ (named_ring_places p.id p.rx ++ map (place.Extra p.id) (range_with_len 0 p.extra))

abbrev pub named_places : List UserPort → List Place
named_places ports = flat_map named_places_of ports

-- a buffer is a named one where its place is one of these
abbrev pub AreFlagged : HoldState → List UserPort → Type 0
AreFlagged h ports = (idx : ℕ) (s : Standing) → standing_at h idx ≡ Some s → s.home.named ≡ list_any (λ q. is_same_place q s.home.place) (named_places ports)

-- the places of a port that hold a buffer: all transmit slots, the receive slots of the user, and the
-- extra positions; no other place of the hold does
abbrev pub size_if : Option RingSlots → ℕ
size_if None = 0
size_if (Some r) = r.ring.size

abbrev pub is_filled_in : Place → UserPort → Bool
is_filled_in (place.Tx port at) p = (port.0 == p.id.0) && nat_lt at (size_if p.tx)
is_filled_in (place.Rx port at) p = (port.0 == p.id.0) && is_user_slot p.rx.ring at
is_filled_in (place.Extra port at) p = (port.0 == p.id.0) && nat_lt at p.extra

abbrev pub is_filled : List UserPort → Place → Bool
is_filled ports q = list_any (is_filled_in q) ports

abbrev pub AreFilled : HoldState → List UserPort → Type 0
AreFilled h ports = (q : Place) → is_some (index_at h q) ≡ is_filled ports q

-- the ports of the hold are these ports' places
abbrev pub places_of_port : UserPort → PortPlaces
places_of_port p = record { port = p.id; sizes = record { tx = size_if p.tx; rx = p.rx.ring.size; extra = p.extra } }

abbrev pub HasPlaces : HoldState → List UserPort → Type 0
HasPlaces h ports = h.ports ≡ map places_of_port ports

-- a buffer has all its bytes
abbrev pub AreWhole : HoldState → Type 0
AreWhole h = (idx : ℕ) (s : Standing) → standing_at h idx ≡ Some s → length s.buf.bytes ≡ buffer_bytes

abbrev pub IsTxSide : Option RingSlots → Type 0
IsTxSide None = Unit {0}
IsTxSide (Some r) = r.side ≡ Tx

-- each ring stands on its own side
abbrev pub AreSided : List UserPort → Type 0
AreSided [] = Unit {0}
AreSided (p ∷ ports) = (IsTxSide p.tx × (p.rx.side ≡ Rx)) × AreSided ports

abbrev pub port_at : List UserPort → ℕ → Option UserPort
port_at ports id = find (λ (p : UserPort). p.id.0 == id) ports

-- whether each slot of the port of an id is a frame
abbrev pub is_whole_port : UserPort → Bool
is_whole_port p = is_pipe_name p.name

abbrev pub whole_at : List UserPort → ℕ → Bool
whole_at ports id = option_map_or is_whole_port (port_at ports id) false

abbrev pub slots_on : Side → UserPort → Option RingSlots
slots_on Tx p = p.tx
slots_on Rx p = Some p.rx

abbrev pub slots_at : Side → List UserPort → ℕ → Option RingSlots
slots_at side ports id = option_and_then (slots_on side) (port_at ports id)

abbrev pub IsRingIf : Option RingSlots → Type 0
IsRingIf None = Unit {0}
IsRingIf (Some r) = IsRing r.ring

-- the positions of each ring are those of a ring
abbrev pub AreRings : List UserPort → Type 0
AreRings [] = Unit {0}
AreRings (p ∷ ports) = (IsRingIf p.tx × IsRing p.rx.ring) × AreRings ports

-- a port whose ring on a side is changed, if it is the port of this id
abbrev pub port_changed : Side → (PortId → RingSlots → RingSlots) → UserPort → UserPort
port_changed Tx change p = record p { tx = option_map (change p.id) p.tx }
port_changed Rx change p = record p { rx = change p.id p.rx }

abbrev pub port_changed_if : ℕ → Side → (PortId → RingSlots → RingSlots) → UserPort → UserPort
port_changed_if id side change p = if p.id.0 == id then port_changed side change p else p

abbrev pub ring_of : OwnRing → RingState
ring_of r = r.ring

-- the frames of pushed slots
abbrev pub frame_seen : HoldState → RingSlots → ℕ → Frame
frame_seen h r at = frame_at (bytes_in_hold h) (slot_at r at)

abbrev pub frames_seen : HoldState → RingSlots → List Frame
frames_seen h r = joined_frames (bytes_in_hold h) None (slots_pushed r)

-- each port keeps room for the buffers in all its places
abbrev pub HasBackRoom : UserPort → Type 0
HasBackRoom p = count_of (places_of_port p).sizes ≤ p.back

abbrev pub HaveBackRoom : List UserPort → Type 0
HaveBackRoom [] = Unit {0}
HaveBackRoom (p ∷ ports) = HasBackRoom p × HaveBackRoom ports
