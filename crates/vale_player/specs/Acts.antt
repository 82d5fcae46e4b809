-- What a line that makes no call changes at ports that its user has: one edit of the own side. Where
-- the user does not have one of them, it changes nothing.
use Rattle.std.specs.Prelude.{ℕ, Bool, not, ◌≡◌, List, Some, None}
use Rattle.nm_types.specs.declared.id.Side.{Side}
use Rattle.nm_types.specs.OwnPorts.{OwnPort, OwnState, port_with_name}
use Rattle.nm_types.specs.OwnEdits.{SlotPlace, with_positions, with_all_back, with_slot_field, with_slots_swapped, with_forwarded, with_extra_link}
use Rattle.vale_script.specs.declared.script.SlotField.{SlotField}
use Rattle.vale_script.specs.declared.script.Act.TheVariants.{Rx, Fwd, Poke, Move, Swap, Extra}
use Rattle.vale_replay.specs.Edits.{changed_by, field_written}

pub record ActsAt (own : OwnState) (name : List ℕ) (id : ℕ) : Type 0 where
  pub back : (keep : Bool) → changed_by (Rx name keep) own ≡ with_all_back id own
  pub poke : (side : Side) (at : ℕ) (field : SlotField) (value : ℕ) → changed_by (Poke name side at field value) own ≡ with_slot_field side id at (field_written field value) own
  pub move : (side : Side) (head cur : ℕ) → changed_by (Move name side head cur) own ≡ with_positions side id head cur own
  pub extra : (from to : ℕ) → changed_by (Extra name from to) own ≡ with_extra_link id from to own

abbrev pub place : Side → ℕ → ℕ → SlotPlace
place side id at = record { side = side; port = id; at = at }

pub record ActsBetween (own : OwnState) (name other : List ℕ) (id other_id : ℕ) : Type 0 where
  pub forward : (count : ℕ) → changed_by (Fwd name other count) own ≡ with_forwarded count id other_id own
  pub swap : (side other_side : Side) (at other_at : ℕ) (quiet : Bool)
      → changed_by (Swap name side at other other_side other_at quiet) own ≡ with_slots_swapped (not quiet) (place side id at) (place other_side other_id other_at) own

abbrev pub NamedActsEdit : Type 0
NamedActsEdit = (own : OwnState) (name : List ℕ) (p : OwnPort) → port_with_name own name ≡ Some p → ActsAt own name p.id.0

abbrev pub ActsBetweenEdit : Type 0
ActsBetweenEdit =
    (own : OwnState) (name other : List ℕ) (p q : OwnPort)
    → port_with_name own name ≡ Some p → port_with_name own other ≡ Some q → ActsBetween own name other p.id.0 q.id.0

-- a line that names no port of the user
pub record ActsNowhere (own : OwnState) (name : List ℕ) : Type 0 where
  pub back : (keep : Bool) → changed_by (Rx name keep) own ≡ own
  pub poke : (side : Side) (at : ℕ) (field : SlotField) (value : ℕ) → changed_by (Poke name side at field value) own ≡ own
  pub move : (side : Side) (head cur : ℕ) → changed_by (Move name side head cur) own ≡ own
  pub extra : (from to : ℕ) → changed_by (Extra name from to) own ≡ own
  pub forward : (to : List ℕ) (count : ℕ) → changed_by (Fwd name to count) own ≡ own
  pub forward_to : (from : List ℕ) (count : ℕ) → changed_by (Fwd from name count) own ≡ own
  pub swap : (other : List ℕ) (side other_side : Side) (at other_at : ℕ) (quiet : Bool) → changed_by (Swap name side at other other_side other_at quiet) own ≡ own
  pub swap_with : (one : List ℕ) (side other_side : Side) (at other_at : ℕ) (quiet : Bool) → changed_by (Swap one side at name other_side other_at quiet) own ≡ own

abbrev pub UnnamedActsChangeNothing : Type 0
UnnamedActsChangeNothing = (own : OwnState) (name : List ℕ) → port_with_name own name ≡ None → ActsNowhere own name
