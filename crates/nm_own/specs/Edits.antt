-- What a user writes on the rings of its ports.
use Rattle.std.specs.Prelude.{ℕ, Bool, if◌then◌else◌}
use Rattle.nm_types.specs.declared.id.Side.{Side}
use Rattle.nm_types.specs.Positions.{is_user_slot}
use Rattle.nm_types.specs.OwnPorts.{OwnRing, OwnState, with_ring, slot_in, with_slot}
use Rattle.nm_types.specs.OwnEdits.{ring_at_positions, with_head, with_cur, with_positions, with_user_slot, stepped, ring_forwarding}
use Rattle.nm_own.specs.declared.edit.RingEdit.{RingEdit}
use Rattle.nm_own.specs.declared.edit.RingEdit.TheVariants.{Head, Cur, Positions, AllBack, Slot, Forward, Part, Frame}
use Rattle.nm_port.specs.declared.port.UserPort.{UserPort}
use Rattle.nm_types.specs.declared.id.PortId.{PortId}
use Rattle.nm_port.specs.Own.{port_changed, port_changed_if}
use Rattle.nm_port.specs.RingSlots.{RingSlots, at_positions, with_slot_of_user, slot_at, with_slot_at, both_stepped, head_stepped, slot_framed, slot_going_on}

abbrev pub edited : RingEdit → RingSlots → RingSlots
edited (Head head) r = at_positions head r.ring.cur r
edited (Cur cur) r = at_positions r.ring.head cur r
edited (Positions head cur) r = at_positions head cur r
edited AllBack r = at_positions r.ring.tail r.ring.tail r
edited (Slot at slot) r = with_slot_of_user at slot r
edited (Forward slot) r = both_stepped (with_slot_at r.ring.head slot r)
edited (Part len) r = head_stepped (with_slot_at r.ring.head (slot_going_on len (slot_at r r.ring.head)) r)
edited (Frame len) r = head_stepped (with_slot_at r.ring.head (slot_framed len (slot_at r r.ring.head)) r)

-- the edit with which a part of that length is put
abbrev pub part_edit : Bool → ℕ → RingEdit
part_edit more len = if more then Part len else Frame len

abbrev pub port_edited : Side → RingEdit → UserPort → UserPort
port_edited side edit p = port_changed side (λ (id : PortId). edited edit) p

abbrev pub port_edited_if : ℕ → Side → RingEdit → UserPort → UserPort
port_edited_if id side edit p = port_changed_if id side (λ (id : PortId). edited edit) p

abbrev pub ring_all_back : OwnRing → OwnRing
ring_all_back r = ring_at_positions r.ring.tail r.ring.tail r

abbrev pub ring_parted : Side → ℕ → OwnRing → OwnRing
ring_parted side len r = stepped (with_slot side r.ring.head (slot_going_on len (slot_in side r r.ring.head)) r)

abbrev pub ring_framed : Side → ℕ → OwnRing → OwnRing
ring_framed side len r = stepped (with_slot side r.ring.head (slot_framed len (slot_in side r r.ring.head)) r)

-- the same of what a session has
abbrev pub own_edited : ℕ → Side → RingEdit → OwnState → OwnState
own_edited id side (Head head) s = with_head side id head s
own_edited id side (Cur cur) s = with_cur side id cur s
own_edited id side (Positions head cur) s = with_positions side id head cur s
own_edited id side AllBack s = with_ring side id ring_all_back s
own_edited id side (Slot at slot) s = with_user_slot side id at slot s
own_edited id side (Forward slot) s = with_ring side id (ring_forwarding side slot) s
own_edited id side (Part len) s = with_ring side id (ring_parted side len) s
own_edited id side (Frame len) s = with_ring side id (ring_framed side len) s

abbrev pub ring_edit : Side → RingEdit → OwnRing → OwnRing
ring_edit side (Head head) r = ring_at_positions head r.ring.cur r
ring_edit side (Cur cur) r = ring_at_positions r.ring.head cur r
ring_edit side (Positions head cur) r = ring_at_positions head cur r
ring_edit side AllBack r = ring_all_back r
ring_edit side (Forward slot) r = ring_forwarding side slot r
ring_edit side (Part len) r = ring_parted side len r
ring_edit side (Frame len) r = ring_framed side len r
ring_edit side (Slot at slot) r = if is_user_slot r.ring at then with_slot side at slot r else r
