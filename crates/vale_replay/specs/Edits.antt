-- What a line changes of what its user has, without a call: nothing where it names a port that the
-- user does not have open, as one whose opening was refused.
use Rattle.std.specs.Prelude.{ℕ, not, List, Option, Some, None}
use Rattle.nm_types.specs.declared.id.Side.{Side}
use Rattle.nm_types.specs.declared.slot.SlotWrite.{SlotWrite}
use Rattle.nm_types.specs.declared.slot.SlotWrite.TheVariants.{BufIdx}
use Rattle.nm_types.specs.declared.slot.SlotWrite.TheVariants as writes
use Rattle.nm_types.specs.OwnPorts.{OwnPort, OwnState, port_with_name}
use Rattle.nm_types.specs.OwnEdits.{with_positions, with_all_back, with_slot_field, with_slots_swapped, with_forwarded, with_extra_link}
use Rattle.vale_script.specs.declared.script.SlotField.{SlotField}
use Rattle.vale_script.specs.declared.script.SlotField.TheVariants.{Idx, Len, Flags, Ptr}
use Rattle.vale_script.specs.declared.script.Act.{Act}
use Rattle.vale_script.specs.declared.script.Act.TheVariants as acts

-- a change of the user's port of this name
abbrev pub change_found : (ℕ → OwnState → OwnState) → OwnState → Option OwnPort → OwnState
change_found change s None = s
change_found change s (Some p) = change p.id.0 s

abbrev pub at_port : List ℕ → (ℕ → OwnState → OwnState) → OwnState → OwnState
at_port name change s = change_found change s (port_with_name s name)

-- a change of two ports, of both or of none
abbrev pub at_ports : List ℕ → List ℕ → (ℕ → ℕ → OwnState → OwnState) → OwnState → OwnState
at_ports name other change s = at_port name (λ id. at_port other (change id)) s

-- a line that writes a field names it and the value apart
abbrev pub field_written : SlotField → ℕ → SlotWrite
field_written Idx value = BufIdx value
field_written Len value = writes.Len value
field_written Flags value = writes.Flags value
field_written Ptr value = writes.Ptr value

-- a field of a user slot is written
abbrev pub poked : Side → ℕ → SlotField → ℕ → ℕ → OwnState → OwnState
poked side at field value id s = with_slot_field side id at (field_written field value) s

abbrev pub changed_by : Act → OwnState → OwnState
changed_by (acts.Rx name keep) s = at_port name with_all_back s
changed_by (acts.Fwd from to count) s = at_ports from to (with_forwarded count) s
changed_by (acts.Poke name side slot field value) s = at_port name (poked side slot field value) s
changed_by (acts.Move name side head cur) s = at_port name (λ id. with_positions side id head cur) s
changed_by (acts.Swap name side slot other other_side other_slot quiet) s =
    at_ports name other (λ id other_id. with_slots_swapped (not quiet)
    (record { side = side; port = id; at = slot })
    (record { side = other_side; port = other_id; at = other_slot })) s
changed_by (acts.Extra name i j) s = at_port name (λ id. with_extra_link id i j) s
changed_by _ s = s
