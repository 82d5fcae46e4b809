-- What a user writes on its own side between its calls changes nothing of what is its session's own, as
-- a statement.
use Rattle.std.specs.Prelude.{ℕ, Bool, List, Option}
use Rattle.nm_types.specs.declared.id.Side.{Side}
use Rattle.nm_types.specs.declared.slot.SlotWrite.{SlotWrite}
use Rattle.nm_types.specs.Slots.{SlotState}
use Rattle.nm_types.specs.OwnPorts.{OwnState}
use Rattle.nm_types.specs.OwnEdits.{SlotPlace, with_head, with_cur, with_positions, with_all_back, with_user_slot, with_slot_field, with_slots_swapped, with_written, with_frame, with_forwarded, with_head_of_chain, with_extra_link}
use Rattle.vale_own.specs.Own.{Own}
use Rattle.vale_own.specs.Side.{IsSoundSideOf}

-- an edit after which a session's side is its side still, and sound
abbrev pub KeepsSides : (OwnState → OwnState) → Type 0
KeepsSides edit = (pool session : ℕ) (shut : Option ℕ) (own : Own) (side : OwnState) → IsSoundSideOf pool session shut own side → IsSoundSideOf pool session shut own (edit side)

-- each edit is one
pub record EditsKeepSides : Type 0 where
  pub head : (side : Side) (id head : ℕ) → KeepsSides (with_head side id head)
  pub cur : (side : Side) (id cur : ℕ) → KeepsSides (with_cur side id cur)
  pub positions : (side : Side) (id head cur : ℕ) → KeepsSides (with_positions side id head cur)
  pub all_back : (id : ℕ) → KeepsSides (with_all_back id)
  pub user_slot : (side : Side) (id at : ℕ) (slot : SlotState) → KeepsSides (with_user_slot side id at slot)
  pub slot_field : (side : Side) (id at : ℕ) (write : SlotWrite) → KeepsSides (with_slot_field side id at write)
  pub slots_swapped : (announce : Bool) (here there : SlotPlace) → KeepsSides (with_slots_swapped announce here there)
  pub written : (idx : ℕ) (bytes : List ℕ) → KeepsSides (with_written idx bytes)
  pub frame : (id : ℕ) (bytes : List ℕ) → KeepsSides (with_frame id bytes)
  pub forwarded : (count from to : ℕ) → KeepsSides (with_forwarded count from to)
  pub head_of_chain : (id idx : ℕ) → KeepsSides (with_head_of_chain id idx)
  pub extra_link : (id from to : ℕ) → KeepsSides (with_extra_link id from to)
