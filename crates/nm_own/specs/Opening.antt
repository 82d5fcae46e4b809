-- A port of a session as it is opened.
use Rattle.std.specs.Prelude.{ℕ, ◌≡◌, ◌==◌, ◌<◌, ◌+◌, if◌then◌else◌, List, [], length, map, Option, Some, None}
use Rattle.nm_types.specs.declared.id.PortId.{PortId}
use Rattle.nm_types.specs.declared.id.Side.TheVariants.{Tx, Rx}
use Rattle.nm_types.specs.Positions.{IsRingSize, opened_tx, opened_rx}
use Rattle.nm_types.specs.Buffers.{IsBufferIndex}
use Rattle.nm_types.specs.Chain.{chain_head}
use Rattle.nm_types.specs.OwnPorts.{OwnState, Arrival, bytes_at}
use Rattle.nm_types.specs.OwnSyncs.{opened_slot}
use Rattle.nm_port.specs.declared.port.UserPort.{UserPort}
use Rattle.nm_port.specs.RingSlots.{RingSlots}

-- a monitor has no transmit slots
abbrev pub IsTxSize : ℕ → Type 0
IsTxSize size = 0 < size → IsRingSize size

-- a buffer of the pool that is none of the session's
abbrev pub IsNew : OwnState → ℕ → Type 0
IsNew s idx = IsBufferIndex s.pool idx × (bytes_at s idx ≡ [])

-- buffers that come with an opening, all of whose bytes are zero
abbrev pub blank_arrival : ℕ → Arrival
blank_arrival idx = record { buffer = idx; bytes = []; rest = 0 }

abbrev pub blank_arrivals : List ℕ → List Arrival
blank_arrivals idxs = map blank_arrival idxs

abbrev pub opened_slots : List ℕ → Option RingSlots
opened_slots idxs = if length idxs == 0 then None else Some (record { side = Tx; ring = opened_tx (length idxs); slots = map opened_slot idxs })

abbrev pub opened_user_port : PortId → List ℕ → ℕ → List ℕ → List ℕ → UserPort
opened_user_port id name rx tx extra = record {
  id = id;
  name = name;
  tx = opened_slots tx;
  rx = record { side = Rx; ring = opened_rx rx; slots = [] };
  extra = length extra;
  extra_head = chain_head extra;
  back = length tx + rx + length extra;
}
