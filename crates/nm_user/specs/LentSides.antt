-- What an own side that is there ends as, once bytes or a slot of it have been lent to be written.
use Rattle.std.specs.Prelude.{ℕ, List, Option, option_map}
use Rattle.std.specs.Borrow.{Lends, LendsIf, MutBor, Fml, Array, u8}
use Rattle.std.specs.contracts.option.Option.{the_row as option_row}
use Rattle.nm_types.specs.declared.id.Side.{Side}
use Rattle.nm_types.specs.Slots.{SlotState}
use Rattle.nm_types.specs.OwnEdits.{user_slot_at}
use Rattle.nm_types.specs.contracts.slot.Slot.{the_row as slot_row}
use Rattle.nm_own.specs.ExtraChain.{named_bytes}
use Rattle.nm_own.specs.LentSlots.{side_with_slot}
use Rattle.nm_port.specs.Regions.{SideState}
use Rattle.nm_own.specs.WrittenBytes.{side_written}
use Rattle.nm_own.specs.contracts.own.OwnSide.{the_row as side_row}

-- the bytes of a buffer that the user may name, and one of the user's slots
abbrev pub bytes_in : ℕ → SideState → Option (List ℕ)
bytes_in idx s = named_bytes s.own idx

abbrev pub slot_in : Side → ℕ → ℕ → SideState → Option SlotState
slot_in side id at s = user_slot_at side s.own id at

abbrev pub LendsBytesIn : MutBor (Option SideState) → ℕ → MutBor (List ℕ) → Fml
LendsBytesIn own idx lent = Lends (option_row side_row) (Array u8 0) own lent (λ bytes. option_map (λ (s : SideState). side_written s idx bytes) own.now)

-- where no slot is lent, it stays as it is
abbrev pub LendsSlotIn : MutBor (Option SideState) → Side → ℕ → ℕ → Option (MutBor SlotState) → Fml
LendsSlotIn own side id at lent = LendsIf (option_row side_row) slot_row own lent (λ slot. option_map (λ (s : SideState). side_with_slot s side id at slot) own.now) own.now
