-- A receive sync in a hold: the pushed slots' buffers go back, and frames that came stand behind the
-- user's other slots.
use Rattle.std.specs.Prelude.{ℕ, Bool, false, ◌≡◌, ◌<◌, ◌==◌, ◌&&◌, ◌-◌, nat_lt, is_none, List, [], ◌∷◌, ◌++◌, map, drop}
use Rattle.std.specs.Option.{option_map_or}
use Rattle.nm_types.specs.declared.id.PortId.{PortId}
use Rattle.nm_types.specs.declared.id.Side.TheVariants.{Rx}
use Rattle.nm_types.specs.declared.place.Place.{Place}
use Rattle.nm_types.specs.Positions.{RingState, FitsRing, dist, slots_from, kernel_count}
use Rattle.nm_types.specs.Slots.{published_slot}
use Rattle.nm_types.specs.SyncChecks.{ring_refusal}
use Rattle.nm_types.specs.OwnPorts.{OwnRing, OwnState, Arrival, ring_at, with_ring}
use Rattle.nm_types.specs.OwnSyncs.{accepted, published, with_arrival}
use Rattle.nm_port.specs.declared.port.UserPort.{UserPort}
use Rattle.nm_port.specs.RingSlots.{RingSlots}
use Rattle.nm_port.specs.Sides.{place_on}
use Rattle.nm_port.specs.Exchanges.{pushed_count_of}

-- the places of the first slots from the accepted head on
abbrev pub user_places : PortId → RingSlots → ℕ → List Place
user_places id r count = map (place_on r.side id) (slots_from r.ring.size r.ring.accepted_head count)

-- a receive ring whose pushed slots are no longer the user's
abbrev pub ring_given_back : RingSlots → RingSlots
ring_given_back r = record r { ring = accepted 0 r.ring; slots = drop (pushed_count_of r) r.slots }

-- the push of a port's receive ring can be accepted, if it is the port of this id
pub record IsPushed (r : RingSlots) : Type 0 where
  pub side : r.side ≡ Rx
  pub fits : FitsRing r.ring r.ring.head r.ring.cur

abbrev pub CanGiveBack : ℕ → UserPort → Type 0
CanGiveBack id p = p.id.0 ≡ id → IsPushed p.rx

-- a receive ring whose positions fit and whose head is accepted has a slot for one frame more
abbrev pub has_free_slot : RingState → Bool
has_free_slot ring = is_none (ring_refusal ring ring.head ring.cur) && ((ring.accepted_head == ring.head) && nat_lt (dist ring.size ring.accepted_head ring.last_tail) (ring.size - 1))

abbrev pub can_receive : ℕ → OwnState → Bool
can_receive id s = option_map_or (λ (r : OwnRing). has_free_slot r.ring) (ring_at Rx s id) false

-- one frame more stands behind the user's slots
abbrev pub ring_with_arrival : Arrival → OwnRing → OwnRing
ring_with_arrival came r = record { ring = accepted 1 r.ring; slots = r.slots ++ published came ∷ []; held = r.held ++ came.buffer ∷ [] }

abbrev pub own_with_arrival : ℕ → OwnState → Arrival → OwnState
own_with_arrival id s came = record (with_ring Rx id (ring_with_arrival came) s) { bytes = with_arrival s.bytes came }

-- the same of a ring as it is kept
abbrev pub ring_published : ℕ → ℕ → ℕ → RingSlots → RingSlots
ring_published buffer len rest r = record r { ring = accepted 1 r.ring; slots = r.slots ++ published_slot buffer len rest ∷ [] }

pub record HasRoom (r : RingSlots) : Type 0 where
  pub side : r.side ≡ Rx
  pub fits : FitsRing r.ring r.ring.head r.ring.cur
  pub accepted : r.ring.accepted_head ≡ r.ring.head
  pub free : 0 < kernel_count r.ring.size r.ring.head r.ring.last_tail
