-- What a ring has once one of the user's slots has been lent to be written.
use Rattle.std.specs.Prelude.{ℕ, Option}
use Rattle.std.specs.Borrow.{LendsIf, MutBor, Fml}
use Rattle.nm_types.specs.Slots.{SlotState}
use Rattle.nm_types.specs.contracts.slot.Slot.{the_row as slot_row}
use Rattle.nm_port.specs.RingSlots.{RingSlots, with_slot_of_user}
use Rattle.nm_port.specs.contracts.slot_ring.SlotRing.{the_row as ring_row}

-- where no slot is lent, the ring stays as it is
abbrev pub LendsUserSlot : MutBor RingSlots → ℕ → Option (MutBor SlotState) → Fml
LendsUserSlot r at lent = LendsIf ring_row slot_row r lent (λ slot. with_slot_of_user at slot r.now) r.now
