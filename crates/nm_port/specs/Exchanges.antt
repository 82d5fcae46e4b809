-- A push in a hold: the exchange of its slots, and which buffers are the user's to name afterwards.
use Rattle.std.specs.Prelude.{ℕ, Bool, true, false, ◌≡◌, ◌≢◌, ◌<◌, ◌≤◌, is_some, IsSome, if◌then◌else◌, List, [], Vec, map, fold, Option, Some, None, slice_get, slice_index_or}
use Rattle.std.specs.List.{list_any}
use Rattle.std.specs.Vec.{vec_capacity}
use Rattle.nm_types.specs.declared.id.PortId.{PortId}
use Rattle.nm_types.specs.declared.id.Side.TheVariants.{Tx}
use Rattle.nm_types.specs.declared.place.Place.{Place}
use Rattle.nm_types.specs.declared.place.Place.TheVariants as place
use Rattle.nm_types.specs.Places.{is_same_place}
use Rattle.nm_types.specs.Positions.{IsRing, FitsRing, dist, step_on, slots_from, kernel_count}
use Rattle.nm_types.specs.OwnSyncs.{after_slot, accepted, slots_after_push}
use Rattle.nm_hold.specs.Holds.{HoldState, places_of, bufs_of, index_at, is_named_at, IsHold, SamePlaces}
use Rattle.nm_port.specs.declared.port.UserPort.{UserPort}
use Rattle.nm_port.specs.RingSlots.{RingSlots}
use Rattle.nm_port.specs.Sides.{place_on, name_at, pushed_seen_at}
use Rattle.nm_port.specs.Own.{port_seen, slots_at, AreSided}
use Rattle.nm_port.specs.Filling.{FlaggedBy}

-- the buffer in a place, if there is one, is a named one
abbrev pub IsNamedThere : HoldState → Place → Type 0
IsNamedThere h q = (idx : ℕ) → index_at h q ≡ Some idx → is_named_at h idx ≡ true

abbrev pub pushed_count_of : RingSlots → ℕ
pushed_count_of r = dist r.ring.size r.ring.accepted_head r.ring.head

abbrev pub user_position : RingSlots → ℕ → ℕ
user_position r k = step_on r.ring.size r.ring.accepted_head k

abbrev pub user_place : PortId → RingSlots → ℕ → Place
user_place id r k = place_on r.side id (user_position r k)

-- each of the first pushed slots names the buffer in its place, as these numbers of all places tell
abbrev pub KeepFirst : RingSlots → List ℕ → ℕ → Type 0
KeepFirst r numbers count = (k : ℕ) → k < count → slice_index_or numbers (user_position r k) 0 ≡ name_at r (user_position r k)

-- the same, of numbers that there are
abbrev pub KeepAll : RingSlots → List ℕ → ℕ → Type 0
KeepAll r numbers count = (k : ℕ) → k < count → slice_get numbers (user_position r k) ≡ Some (name_at r (user_position r k))

-- each pushed slot's place holds a named buffer, and the slot names one, which no other does
pub record CanExchange (h : HoldState) (id : PortId) (r : RingSlots) : Type 0 where
  pub fits : FitsRing r.ring r.ring.head r.ring.cur
  pub held : (k : ℕ) → k < pushed_count_of r → IsSome (index_at h (user_place id r k))
  pub there : (k : ℕ) → k < pushed_count_of r → IsNamedThere h (user_place id r k)
  pub named : (k : ℕ) → k < pushed_count_of r → is_named_at h (name_at r (user_position r k)) ≡ true
  pub once : (j k : ℕ) → j < k → k < pushed_count_of r → name_at r (user_position r j) ≢ name_at r (user_position r k)
  pub is_hold : IsHold h

-- what is exchanged can be noted, an index for each pushed slot
pub record CanNote {X : Type 0} (h : HoldState) (id : PortId) (r : RingSlots) (was : Vec ℕ X) : Type 0 where
  pub can : CanExchange h id r
  pub ring : IsRing r.ring
  pub empty : was.items ≡ []
  pub room : pushed_count_of r ≤ vec_capacity was

-- for each of the first pushed slots the buffer in its place, and the one that it names, have changed
-- places; their places hold what they name
pub record AreExchanged (h now : HoldState) (id : PortId) (r : RingSlots) (count : ℕ) : Type 0 where
  pub seen : (ports : List UserPort) → AreSided ports → slots_at r.side ports id.0 ≡ Some r
      → map (port_seen now) ports ≡ fold (after_slot r.side id.0) (map (port_seen h) ports) (map (pushed_seen_at h id r) (slots_from r.ring.size r.ring.accepted_head count))
  pub names : (k : ℕ) → k < count → index_at now (user_place id r k) ≡ Some (name_at r (user_position r k))
  pub held : (q : Place) → is_some (index_at now q) ≡ is_some (index_at h q)
  pub there : (q : Place) → IsNamedThere h q → IsNamedThere now q
  pub named : (idx : ℕ) → is_named_at now idx ≡ is_named_at h idx
  pub flags : (was : Place → Bool) → FlaggedBy h was → FlaggedBy now was
  pub bufs : bufs_of now ≡ bufs_of h
  pub ports : now.ports ≡ h.ports
  pub is_hold : IsHold now

abbrev pub is_among : List Place → Place → Bool
is_among places q = list_any (λ p. is_same_place p q) places

-- the buffers in some places become named ones, or are no longer
abbrev pub named_if : Bool → List Place → (Place → Bool) → Place → Bool
named_if named places was q = if is_among places q then named else was q

pub record AreRenamed (h now : HoldState) (named : Bool) (places : List Place) : Type 0 where
  pub same : SamePlaces (places_of h) (places_of now)
  pub flags : (was : Place → Bool) → FlaggedBy h was → FlaggedBy now (named_if named places was)
  pub bufs : bufs_of now ≡ bufs_of h
  pub ports : now.ports ≡ h.ports
  pub is_hold : IsHold now

abbrev pub tx_places : PortId → ℕ → ℕ → ℕ → List Place
tx_places id size first count = map (place.Tx id) (slots_from size first count)

-- A transmit push in a hold, of whose frames so many were taken: its slots are exchanged and no longer
-- the user's, and as many behind the tail are.
abbrev pub named_after_push : PortId → RingSlots → ℕ → (Place → Bool) → Place → Bool
named_after_push id r taken was =
    named_if true (tx_places id r.ring.size r.ring.last_tail taken) (named_if false (tx_places id r.ring.size r.ring.accepted_head (pushed_count_of r)) was)

pub record ArePushedOut (h now : HoldState) (id : PortId) (r : RingSlots) (taken : ℕ) : Type 0 where
  pub seen : (ports : List UserPort) → AreSided ports → slots_at r.side ports id.0 ≡ Some r
      → map (port_seen now) ports ≡ fold (after_slot r.side id.0) (map (port_seen h) ports) (map (pushed_seen_at h id r) (slots_from r.ring.size r.ring.accepted_head (pushed_count_of r)))
  pub held : (q : Place) → is_some (index_at now q) ≡ is_some (index_at h q)
  pub flags : (was : Place → Bool) → FlaggedBy h was → FlaggedBy now (named_after_push id r taken was)
  pub bufs : bufs_of now ≡ bufs_of h
  pub ports : now.ports ≡ h.ports
  pub is_hold : IsHold now

-- a transmit ring whose push is accepted, of whose frames so many were taken
abbrev pub ring_pushed_out : ℕ → RingSlots → RingSlots
ring_pushed_out taken r = record r { ring = accepted taken r.ring; slots = slots_after_push r.ring r.slots }

-- the push of a transmit ring can be accepted, and so many of its frames can be taken
pub record CanPushOut (taken : ℕ) (r : RingSlots) : Type 0 where
  pub side : r.side ≡ Tx
  pub is_ring : IsRing r.ring
  pub fits : FitsRing r.ring r.ring.head r.ring.cur
  pub few : taken ≤ kernel_count r.ring.size r.ring.head r.ring.last_tail

abbrev pub CanPushOutIf : ℕ → Option RingSlots → Type 0
CanPushOutIf taken None = Unit {0}
CanPushOutIf taken (Some r) = CanPushOut taken r

abbrev pub CanAccept : ℕ → ℕ → UserPort → Type 0
CanAccept id taken p = p.id.0 ≡ id → CanPushOutIf taken p.tx
