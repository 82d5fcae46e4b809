-- The own side of a push whose buffers are lent out, on either side of a port: those that a receive push
-- gives back, or those of the frames that a put offers. They go for good, or come back.
use Rattle.std.specs.Prelude.{ℕ, ◌≡◌, ◌≤◌, ◌+◌, List, [], length, map, take, drop, reverse, Some, None, IsSome}
use Rattle.std.specs.Vec.{vec_capacity}
use Rattle.std.specs.declared.alloc.Global.{Global}
use Rattle.std.specs.declared.vec.Vec.{Vec}
use Rattle.nm_types.specs.declared.id.PortId.{PortId}
use Rattle.nm_types.specs.declared.id.Side.{Side}
use Rattle.nm_types.specs.declared.id.Side.TheVariants.{Tx, Rx}
use Rattle.nm_types.specs.declared.place.Place.{Place}
use Rattle.nm_types.specs.Positions.{dist, slots_from}
use Rattle.nm_types.specs.OwnPorts.{OwnState, bytes_at, ring_at, refusal_at}
use Rattle.nm_types.specs.OwnSyncs.{after_exchange, taken_on, back_on}
use Rattle.nm_region.specs.Buffers.{Buffer, indices_of}
use Rattle.nm_hold.specs.Holds.{HoldState}
use Rattle.nm_own.specs.declared.lending.LentSide.{LentSide}
use Rattle.nm_port.specs.RingSlots.{RingSlots}
use Rattle.nm_port.specs.Own.{own_seen, slots_at}
use Rattle.nm_port.specs.Regions.{AllOf, AreOf, SideState, side_seen}
use Rattle.nm_own.specs.Kept.{IsKept}
use Rattle.nm_port.specs.Closing.{bytes_of_buffers}
use Rattle.nm_port.specs.Exchanges.{pushed_count_of, AreExchanged}
use Rattle.nm_port.specs.Offers.{offered_lengths}
use Rattle.nm_port.specs.Puts.{offered_slot}
use Rattle.nm_port.specs.Sides.{place_on}
use Rattle.nm_port.specs.Lending.{Run, AreSwapped, AreOut}

-- how many slots are still pushed, and how many a put offers
abbrev pub pending_count_of : RingSlots → ℕ
pending_count_of r = dist r.ring.size (offered_slot r.ring) r.ring.accepted_head

abbrev pub offered_count_of : RingSlots → ℕ
offered_count_of r = pending_count_of r + pushed_count_of r

-- how many frames a put of a port offers, and the buffers that stand in their places once the push is
-- exchanged
abbrev pub offered_count : ℕ → OwnState → ℕ
offered_count id s = length (offered_lengths id s)

abbrev pub offered_buffers : ℕ → OwnState → List ℕ
offered_buffers id s = taken_on id (after_exchange Tx id s).ports (offered_count id s)

-- the slots whose buffers a push lends: the first of them, their number, and how many of them are still
-- pushed, whose buffers cannot be named
abbrev pub first_lent : Side → RingSlots → ℕ
first_lent Tx r = offered_slot r.ring
first_lent Rx r = r.ring.accepted_head

abbrev pub lent_count_of : Side → RingSlots → ℕ
lent_count_of Tx r = offered_count_of r
lent_count_of Rx r = pushed_count_of r

abbrev pub unnamed_count : Side → RingSlots → ℕ
unnamed_count Tx r = pending_count_of r
unnamed_count Rx r = 0

abbrev pub lent_run : Side → PortId → RingSlots → Run
lent_run side id r = record { id = id; side = r.side; size = r.ring.size; first = first_lent side r }

abbrev pub lent_places : Side → PortId → RingSlots → List Place
lent_places side id r = map (place_on r.side id) (slots_from r.ring.size (first_lent side r) (lent_count_of side r))

-- the same of what a session has: how many buffers the push lends, and which
abbrev pub lent_number : Side → ℕ → OwnState → ℕ
lent_number Tx id s = offered_count id s
lent_number Rx id s = length (back_on id s)

abbrev pub lent_buffers : Side → ℕ → OwnState → List ℕ
lent_buffers Tx id s = offered_buffers id s
lent_buffers Rx id s = back_on id s

-- what a session had, whose push is not accepted yet, and the buffers of its slots are lent
pub record IsLent (side : Side) (id : PortId) (s : SideState) (lent : List Buffer) (l : LentSide) : Type 0 where
  pub was : HoldState
  pub exchanged : HoldState
  pub r : RingSlots
  pub seen : s ≡ side_seen was l.ports.items
  pub kept : IsKept (record { hold = was; ports = l.ports; marks = l.marks })
  pub ring : slots_at side l.ports.items id.0 ≡ Some r
  pub passes : refusal_at side id.0 (own_seen was l.ports.items) ≡ None
  pub exchange : AreExchanged was exchanged id r (pushed_count_of r)
  pub swapped : AreSwapped was id r (reverse l.replaced.items) exchanged
  pub few : length l.replaced.items ≤ pushed_count_of r
  pub lent_count : length lent ≡ lent_count_of side r
  pub out : AreOut exchanged (lent_run side id r) (unnamed_count side r) (reverse lent) l.hold

-- a push that no check refuses, room for the buffers that it lends, and an empty list with room for as
-- many numbers
pub record CanLend (side : Side) (id : PortId) (s : SideState) (to : Vec Buffer Global) (notes : Vec ℕ Global) : Type 0 where
  pub ring : IsSome (ring_at side s.own id.0)
  pub passes : refusal_at side id.0 s.own ≡ None
  pub room : length to.items + lent_number side id.0 s.own ≤ vec_capacity to
  pub empty : notes.items ≡ []
  pub notes_room : lent_number side id.0 s.own ≤ vec_capacity notes

-- the buffers of a push of the port wanted were lent, behind those that were there
pub record Lends (side : Side) (wanted : PortId) (s : SideState) (old new : Vec Buffer Global) (id : PortId) (l : LentSide) : Type 0 where
  pub lent : IsLent side id s (drop (length old.items) new.items) l
  pub port : id ≡ wanted
  pub before : take (length old.items) new.items ≡ old.items
  pub buffers : indices_of (drop (length old.items) new.items) ≡ lent_buffers side wanted.0 s.own
  pub bytes : bytes_of_buffers (drop (length old.items) new.items) ≡ map (bytes_at s.own) (lent_buffers side wanted.0 s.own)
  pub capacity : vec_capacity new ≡ vec_capacity old
  pub out : (region : ℕ) → AllOf region s → AreOf region (drop (length old.items) new.items)

-- they came back, and nothing was lent
pub record IsUndone (side : Side) (id : PortId) (l : LentSide) (old new : Vec Buffer Global) (result : SideState) : Type 0 where
  pub own : (s : SideState) → IsLent side id s old.items l → result ≡ s
  pub none : new.items ≡ []
  pub capacity : vec_capacity new ≡ vec_capacity old
