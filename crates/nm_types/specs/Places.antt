-- A session's places, each of which holds one buffer: transmit and receive slots, and extra positions.
-- Named are the buffers in user slots and extra positions, over all ports of the session.
use Rattle.std.specs.Prelude.{ℕ, Bool, true, false, ◌&&◌, ◌==◌, ◌≡◌, List, map, filter, find, Option, Some, None, option_map}
use Rattle.nm_types.specs.declared.place.Place.{Place}
use Rattle.nm_types.specs.declared.place.Place.TheVariants.{Tx, Rx, Extra}
use Rattle.nm_types.specs.Positions.{RingState, is_user_slot}
use Rattle.nm_types.specs.SyncChecks.{contains_index}

pub record Held : Type 0 where
  pub place : Place
  pub buffer : ℕ

abbrev pub is_same_place : Place → Place → Bool
is_same_place (Tx port slot) (Tx other at) = (port.0 == other.0) && (slot == at)
is_same_place (Rx port slot) (Rx other at) = (port.0 == other.0) && (slot == at)
is_same_place (Extra port slot) (Extra other at) = (port.0 == other.0) && (slot == at)
is_same_place place other = false

-- the buffer in a place
abbrev pub held_at : List Held → Place → Option ℕ
held_at held place = option_map (λ (h : Held). h.buffer) (find (λ h. is_same_place place h.place) held)

-- the rings of a session's port; a monitor's has no transmit ring
pub record PortRings : Type 0 where
  pub port : ℕ
  pub tx : Option RingState
  pub rx : RingState

abbrev pub rings_of : List PortRings → ℕ → Option PortRings
rings_of ports port = find (λ rings. rings.port == port) ports

abbrev pub is_user_slot_if : Option RingState → ℕ → Bool
is_user_slot_if None at = false
is_user_slot_if (Some ring) at = is_user_slot ring at

abbrev pub is_tx_user_slot : Option PortRings → ℕ → Bool
is_tx_user_slot None at = false
is_tx_user_slot (Some rings) at = is_user_slot_if rings.tx at

abbrev pub is_rx_user_slot : Option PortRings → ℕ → Bool
is_rx_user_slot None at = false
is_rx_user_slot (Some rings) at = is_user_slot rings.rx at

abbrev pub is_named_place : List PortRings → Place → Bool
is_named_place ports (Tx port slot) = is_tx_user_slot (rings_of ports port.0) slot
is_named_place ports (Rx port slot) = is_rx_user_slot (rings_of ports port.0) slot
is_named_place ports (Extra port at) = true

abbrev pub named_buffers : List PortRings → List Held → List ℕ
named_buffers ports held = map (λ h. h.buffer) (filter (λ h. is_named_place ports h.place) held)

abbrev pub is_named : List PortRings → List Held → ℕ → Bool
is_named ports held idx = contains_index (named_buffers ports held) idx

abbrev pub IsNamed : List PortRings → List Held → ℕ → Type 0
IsNamed ports held idx = is_named ports held idx ≡ true
