-- What a reset makes of the rings of a session's ports.
use Rattle.std.specs.Prelude.{ℕ, List, fold, slice_set, slice_index_or}
use Rattle.nm_types.specs.declared.id.PortId.{PortId}
use Rattle.nm_types.specs.declared.id.Side.{Side}
use Rattle.nm_types.specs.Positions.{user_slots}
use Rattle.nm_types.specs.Slots.{SlotState}
use Rattle.nm_types.specs.Reset.{reset_positions, reset_slot}
use Rattle.nm_types.specs.OwnPorts.{index_of, blank_slot}
use Rattle.nm_hold.specs.Holds.{HoldState}
use Rattle.nm_port.specs.declared.port.UserPort.{UserPort}
use Rattle.nm_port.specs.RingSlots.{RingSlots}
use Rattle.nm_port.specs.Own.{number_on, port_changed, port_changed_if}

abbrev pub slots_reset_at : HoldState → PortId → RingSlots → List SlotState → ℕ → List SlotState
slots_reset_at h id r slots at =
    slice_set slots (index_of r.side r.ring at) (reset_slot r.side (number_on h r.side id at) (slice_index_or slots (index_of r.side r.ring at) blank_slot))

abbrev pub ring_reset : HoldState → PortId → RingSlots → RingSlots
ring_reset h id r = record r { ring = reset_positions r.ring; slots = fold (slots_reset_at h id r) r.slots (user_slots r.ring) }

abbrev pub port_reset : HoldState → Side → UserPort → UserPort
port_reset h side p = port_changed side (ring_reset h) p

abbrev pub port_reset_if : HoldState → ℕ → Side → UserPort → UserPort
port_reset_if h id side p = port_changed_if id side (ring_reset h) p
