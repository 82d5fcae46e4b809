-- A put of which the other end of a pipe took some frames, the first ones.
use Rattle.std.specs.Prelude.{ℕ, List, [], fold}
use Rattle.nm_types.specs.declared.id.PortId.{PortId}
use Rattle.nm_types.specs.declared.id.Side.TheVariants.{Tx}
use Rattle.nm_types.specs.Positions.{RingState, step_on, slots_from}
use Rattle.nm_types.specs.Slots.{SlotState}
use Rattle.nm_types.specs.Buffers.{cleared_but}
use Rattle.nm_types.specs.OwnSyncs.{accepted, slots_after_push, with_slot_refilled}
use Rattle.nm_region.specs.Buffers.{Buffer}
use Rattle.nm_hold.specs.Holds.{HoldState}
use Rattle.nm_port.specs.RingSlots.{RingSlots}
use Rattle.nm_port.specs.Own.{number_on}

-- the slot of the first frame that is still offered, behind the tail
abbrev pub offered_slot : RingState → ℕ
offered_slot ring = step_on ring.size ring.last_tail 1

-- a buffer all of whose bytes are zero
abbrev pub cleared : Buffer → Buffer
cleared b = record b { bytes = cleared_but [] }

-- a slot names the buffer in its place
abbrev pub with_slot_named : HoldState → PortId → List SlotState → ℕ → List SlotState
with_slot_named h id slots at = with_slot_refilled slots (at, number_on h Tx id at)

-- a transmit ring whose push is accepted, and so many of whose frames offered were taken: their slots
-- name the buffers in their places
abbrev pub ring_taken : HoldState → PortId → ℕ → RingSlots → RingSlots
ring_taken h id taken r = record r {
  ring = accepted taken r.ring;
  slots = fold (with_slot_named h id) (slots_after_push r.ring r.slots) (slots_from r.ring.size (offered_slot r.ring) taken);
}
