-- What a ring, a port and a session have once one of the user's slots has been lent to be written.
use Rattle.std.specs.Prelude.{ℕ, List, Option, slice_get, option_and_then}
use Rattle.std.specs.Option.{option_map_or}
use Rattle.std.specs.List.{position_or_len}
use Rattle.std.specs.Borrow.{LendsIf, MutBor, Fml, RattleType}
use Rattle.std.specs.declared.vec.Vec.{Vec}
use Rattle.std.specs.Vec.{with_item}
use Rattle.std.specs.contracts.alloc.Global.{the_row as global_row}
use Rattle.std.specs.contracts.vec.Vec.{the_row as vec_row}
use Rattle.std.specs.contracts.impls.GlobalAllocator.TheImpl.{ghosts}
use Rattle.std.specs.declared.alloc.Global.{Global}
use Rattle.nm_types.specs.declared.id.Side.{Side}
use Rattle.nm_types.specs.Slots.{SlotState}
use Rattle.nm_types.specs.OwnEdits.{with_user_slot}
use Rattle.nm_types.specs.contracts.slot.Slot.{the_row as slot_row}
use Rattle.nm_own.specs.declared.edit.RingEdit.TheVariants.{Slot}
use Rattle.nm_port.specs.declared.port.UserPort.{UserPort}
use Rattle.nm_port.specs.RingSlots.{RingSlots, slot_of_user}
use Rattle.nm_port.specs.Own.{slots_on}
use Rattle.nm_own.specs.Edits.{port_edited}
use Rattle.nm_port.specs.Regions.{SideState}
use Rattle.nm_own.specs.contracts.own.OwnSide.{the_row as side_row}
use Rattle.nm_port.specs.Closing.{has_id}
use Rattle.nm_port.specs.contracts.port.UserPort.{the_row as port_row}

-- where no slot is lent, the port stays as it is
abbrev pub slot_of_port : Side → ℕ → UserPort → Option SlotState
slot_of_port side at p = option_and_then (λ (r : RingSlots). slot_of_user r at) (slots_on side p)

abbrev pub LendsPortSlot : MutBor UserPort → Side → ℕ → Option (MutBor SlotState) → Fml
LendsPortSlot p side at lent = LendsIf port_row slot_row p lent (λ slot. port_edited side (Slot at slot) p.now) p.now

-- and of the port at a place in a list
abbrev pub ports_row : RattleType
ports_row = vec_row port_row global_row ghosts

abbrev pub with_port_in : Vec UserPort Global → ℕ → (UserPort → UserPort) → Vec UserPort Global
with_port_in ports index change = option_map_or (λ (p : UserPort). with_item ports index (change p)) (slice_get ports.items index) ports

abbrev pub LendsSlotIn : MutBor (Vec UserPort Global) → ℕ → Side → ℕ → Option (MutBor SlotState) → Fml
LendsSlotIn ports index side at lent =
    LendsIf ports_row slot_row ports lent (λ slot. with_port_in ports.now index (port_edited side (Slot at slot))) (with_port_in ports.now index (λ (p : UserPort). p))

-- where the first port of an id stands in a list, and where there is none, the list's end
abbrev pub index_of_port : ℕ → List UserPort → ℕ
index_of_port id ports = position_or_len (has_id id) ports

-- where the slot is none of the user's, the session stays as it is
abbrev pub side_with_slot : SideState → Side → ℕ → ℕ → SlotState → SideState
side_with_slot s side id at slot = record s { own = with_user_slot side id at slot s.own }

abbrev pub LendsSlotAt : MutBor SideState → Side → ℕ → ℕ → Option (MutBor SlotState) → Fml
LendsSlotAt s side id at lent = LendsIf side_row slot_row s lent (side_with_slot s.now side id at) s.now
