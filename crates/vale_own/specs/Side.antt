-- What is a session's own of all that stands, tied to what it has on its own side: its rings with
-- their slots, and the buffers in their places.
use Rattle.std.specs.Prelude.{ℕ, Bool, true, false, ◌≡◌, ◌≤◌, ◌+◌, ◌==◌, nat_eq, List, [], length, map, take, flat_map, count_by, Option, Some, None}
use Rattle.std.specs.Option.{option_map_or}
use Rattle.std.specs.List.{AllByRecursion, IsDistinct}
use Rattle.nm_types.specs.declared.id.Side.TheVariants.{Tx}
use Rattle.nm_types.specs.Limits.{buffer_bytes}
use Rattle.nm_types.specs.Positions.{IsRing, dist, pending_slots}
use Rattle.nm_types.specs.OwnPorts.{OwnRing, OwnPort, OwnState, bytes_at, port_with_id, slot_in, buffer_in, buffers_in}
use Rattle.vale_entry.specs.declared.entry.Ask.{Ask}
use Rattle.vale_entry.specs.declared.entry.Ask.TheVariants.{Enter, Open, Send, Sync, Shut, Finish, Leave, Put, PutKept, Get}
use Rattle.vale_entry.specs.declared.entry.Item.{Item}
use Rattle.vale_entry.specs.declared.entry.Reply.{Reply}
use Rattle.vale_entry.specs.World.{Port}
use Rattle.vale_entry.specs.OwnCalls.{tx_call, rx_call, finish_call}
use Rattle.vale_entry.specs.Legal.{kept_items}
use Rattle.vale_own.specs.Own.{Own}

-- the buffers in the places of a side
abbrev pub buffers_on : OwnState → List ℕ
buffers_on side = flat_map buffers_in side.ports

abbrev pub id_of : OwnPort → ℕ
id_of p = p.id.0

abbrev pub size_if : Option OwnRing → ℕ
size_if None = 0
size_if (Some r) = r.ring.size

-- the port that is shut and not gone yet, if there is one
abbrev pub is_shut : Option ℕ → ℕ → Bool
is_shut shut id = option_map_or (λ (at : ℕ). id == at) shut false

-- a port as it stands, by what its session has of it: what is out of it is with the user
abbrev pub port_of_side : ℕ → Option ℕ → OwnPort → Port
port_of_side session shut p = record {
  id = p.id.0;
  session = session;
  name = p.name;
  tx = size_if p.tx;
  rx = p.rx.ring.size;
  extra = length p.extra;
  shutting = is_shut shut p.id.0;
  out = length p.rx.held;
  line = [];
}

-- the side has the ports of the session that is there, and in their places the session's buffers
pub record IsSideOf (pool session : ℕ) (shut : Option ℕ) (own : Own) (side : OwnState) : Type 0 where
  pub there : own.there ≡ true
  pub pool_is : side.pool ≡ pool
  pub ports : own.ports ≡ map (port_of_side session shut) side.ports
  pub buffers : (b : ℕ) → count_by (λ y. y == b) own.buffers ≡ count_by (λ y. y == b) (buffers_on side)

-- a slot whose frame a pipe has not taken names the buffer in its place
pub record IsPending (r : OwnRing) (at : ℕ) : Type 0 where
  pub named : (slot_in Tx r at).buf_idx ≡ buffer_in Tx r at
  pub fits : (slot_in Tx r at).len ≤ buffer_bytes

-- a transmit ring has a slot and a buffer at each position
pub record IsTxRing (r : OwnRing) : Type 0 where
  pub positions : IsRing r.ring
  pub slots : length r.slots ≡ r.ring.size
  pub held : length r.held ≡ r.ring.size
  pub pending : AllByRecursion (IsPending r) (pending_slots r.ring)

abbrev pub IsTxRingIf : Option OwnRing → Type 0
IsTxRingIf None = Unit {0}
IsTxRingIf (Some r) = IsTxRing r

-- a receive ring has them at the user's positions
pub record IsRxRing (r : OwnRing) : Type 0 where
  pub positions : IsRing r.ring
  pub slots : length r.slots ≡ dist r.ring.size r.ring.accepted_head r.ring.last_tail
  pub held : length r.held ≡ dist r.ring.size r.ring.accepted_head r.ring.last_tail

pub record IsSoundPort (p : OwnPort) : Type 0 where
  pub tx : IsTxRingIf p.tx
  pub rx : IsRxRing p.rx

-- rings that are whole, ports that differ, and bytes for each buffer that is in a place, and no others
pub record IsSound (side : OwnState) : Type 0 where
  pub each : AllByRecursion IsSoundPort side.ports
  pub apart : IsDistinct nat_eq (map id_of side.ports)
  pub cells : length side.bytes ≡ side.pool + 2
  pub blank : (b : ℕ) → count_by (λ y. y == b) (buffers_on side) ≡ 0 → bytes_at side b ≡ []

pub record IsSoundSideOf (pool session : ℕ) (shut : Option ℕ) (own : Own) (side : OwnState) : Type 0 where
  pub of : IsSideOf pool session shut own side
  pub sound : IsSound side

-- A call that the side makes, as an entry has it.

pub record IsTxCall (side : OwnState) (id : ℕ) (ask : Ask) : Type 0 where
  pub port : OwnPort
  pub ring : OwnRing
  pub found : port_with_id side id ≡ Some port
  pub has : port.tx ≡ Some ring
  pub is : tx_call side port ring ≡ ask

pub record IsRxCall (side : OwnState) (id : ℕ) (ask : Ask) : Type 0 where
  pub port : OwnPort
  pub found : port_with_id side id ≡ Some port
  pub is : rx_call side port ≡ ask

pub record IsFinishCall (side : OwnState) (id : ℕ) (ask : Ask) : Type 0 where
  pub port : OwnPort
  pub found : port_with_id side id ≡ Some port
  pub is : finish_call side port ≡ ask

-- of a put, as many of the frames offered are taken as the reply has, from the first on
pub record IsPutCall (side : OwnState) (id : ℕ) (reply : Reply) : Type 0 where
  pub offered : List Item
  pub call : IsTxCall side id (Put (record { 0 = id }) offered)
  pub taken : kept_items reply ≡ take (length (kept_items reply)) offered

-- An entry of a sync or of a detach is of the call that the side makes. One port is shut at a time, and
-- none is opened until it is gone. A session that enters or leaves has no side before or after that.
abbrev pub IsOfSide : Option ℕ → OwnState → Ask → Reply → Type 0
IsOfSide shut side (Enter user) reply = ⊥
IsOfSide shut side (Open session name tx rx extra) reply = shut ≡ None
IsOfSide shut side (Send port frames) reply = IsTxCall side port.0 (Send port frames)
IsOfSide shut side (PutKept port offered) reply = IsPutCall side port.0 reply
IsOfSide shut side (Sync port back) reply = IsRxCall side port.0 (Sync port back)
IsOfSide shut side (Get port back) reply = IsRxCall side port.0 (Get port back)
IsOfSide shut side (Shut port) reply = shut ≡ None
IsOfSide shut side (Finish port bufs chain) reply = IsFinishCall side port.0 (Finish port bufs chain)
IsOfSide shut side (Leave session) reply = ⊥
IsOfSide shut side _ reply = Unit {0}

abbrev pub shut_after : Ask → Option ℕ → Option ℕ
shut_after (Shut port) shut = Some port.0
shut_after (Finish port bufs chain) shut = None
shut_after _ shut = shut
