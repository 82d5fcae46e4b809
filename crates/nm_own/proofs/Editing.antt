-- An edit of a ring, over what is seen.
use Rattle.std.proofs.Common.{ℕ, ◌≡◌, List, map, if◌then◌else◌, inl, inr, refl, sym, ◌∙◌, ap}
use Rattle.std.proofs.lemmas.Bool.{cases_Bool}
use Rattle.nm_types.specs.declared.id.PortId.{PortId}
use Rattle.nm_types.specs.declared.id.Side.{Side}
use Rattle.nm_types.specs.declared.id.Side.TheVariants.{Tx, Rx}
use Rattle.nm_types.specs.Positions.{RingState, IsRing, step_on, is_user_slot}
use Rattle.nm_types.specs.Slots.{SlotState}
use Rattle.nm_types.specs.OwnPorts.{OwnState, with_slot, with_port, with_ring_on}
use Rattle.nm_hold.specs.Holds.{HoldState}
use Rattle.nm_own.specs.declared.edit.RingEdit.{RingEdit}
use Rattle.nm_own.specs.declared.edit.RingEdit.TheVariants.{Head, Cur, Positions, AllBack, Slot, Forward, Part, Frame}
use Rattle.nm_port.specs.declared.port.UserPort.{UserPort}
use Rattle.nm_port.specs.RingSlots.{RingSlots, with_held, at_positions, with_slot_of_user, slot_at, with_slot_at, both_stepped, head_stepped, slot_framed, slot_going_on}
use Rattle.nm_port.specs.Own.{named_ring_places, held_on, ring_seen, own_seen, AreSided, AreRings}
use Rattle.nm_own.proofs.Changing.{Keeps, SameUse, seen_changed}
use Rattle.nm_own.specs.Edits.{edited, port_edited_if, own_edited, ring_edit}

-- a slot that is written is that of the ring as it is seen
slot_written : (h : HoldState) (id : PortId) (side : Side) (r : RingSlots) (at : ℕ) (slot : SlotState) → r.side ≡ side
    → ring_seen h id (with_slot_of_user at slot r) ≡ (if is_user_slot r.ring at then with_slot side at slot (ring_seen h id r) else ring_seen h id r)
slot_written h id side r at slot e = elim (cases_Bool (is_user_slot r.ring at)) [
  | inl user ↦ rw (user, e) refl
  | inr other ↦ rw other refl
]

-- the side stays
side_edited : (edit : RingEdit) (r : RingSlots) → (edited edit r).side ≡ r.side
side_edited (Head head) r = refl
side_edited (Cur cur) r = refl
side_edited (Positions head cur) r = refl
side_edited AllBack r = refl
side_edited (Forward slot) r = refl
side_edited (Part len) r = refl
side_edited (Frame len) r = refl
side_edited (Slot at slot) r = elim (cases_Bool (is_user_slot r.ring at)) [
  | inl user ↦ rw user refl
  | inr other ↦ rw other refl
]

-- head and cur say nothing of the places
held_same : (h : HoldState) (id : PortId) (side : Side) (head cur : ℕ) (ring : RingState) → held_on h side id (record ring { head = head; cur = cur }) ≡ held_on h side id ring
held_same h id Tx head cur ring = refl
held_same h id Rx head cur ring = refl

-- the ring is seen edited
ring_seen_edited : (h : HoldState) (id : PortId) (side : Side) (edit : RingEdit) (r : RingSlots) → r.side ≡ side → ring_seen h id (edited edit r) ≡ ring_edit side edit (ring_seen h id r)
ring_seen_edited h id side (Head head) r e = ap (λ (held : List ℕ). with_held held (at_positions head r.ring.cur r)) (held_same h id r.side head r.ring.cur r.ring)
ring_seen_edited h id side (Cur cur) r e = ap (λ (held : List ℕ). with_held held (at_positions r.ring.head cur r)) (held_same h id r.side r.ring.head cur r.ring)
ring_seen_edited h id side (Positions head cur) r e = ap (λ (held : List ℕ). with_held held (at_positions head cur r)) (held_same h id r.side head cur r.ring)
ring_seen_edited h id side AllBack r e = ap (λ (held : List ℕ). with_held held (at_positions r.ring.tail r.ring.tail r)) (held_same h id r.side r.ring.tail r.ring.tail r.ring)
ring_seen_edited h id side (Slot at slot) r e = slot_written h id side r at slot e
ring_seen_edited h id side (Forward slot) r e =
    let head = step_on r.ring.size r.ring.head 1 in
    let cur = step_on r.ring.size r.ring.cur 1 in
    rw (← e) (ap (λ (held : List ℕ). with_held held (both_stepped (with_slot_at r.ring.head slot r))) (held_same h id r.side head cur r.ring))
ring_seen_edited h id side (Part len) r e =
    let head = step_on r.ring.size r.ring.head 1 in
    rw (← e) (ap (λ (held : List ℕ). with_held held (head_stepped (with_slot_at r.ring.head (slot_going_on len (slot_at r r.ring.head)) r))) (held_same h id r.side head head r.ring))
ring_seen_edited h id side (Frame len) r e =
    let head = step_on r.ring.size r.ring.head 1 in
    rw (← e) (ap (λ (held : List ℕ). with_held held (head_stepped (with_slot_at r.ring.head (slot_framed len (slot_at r r.ring.head)) r))) (held_same h id r.side head head r.ring))

own_is : (id : ℕ) (side : Side) (edit : RingEdit) (s : OwnState) → own_edited id side edit s ≡ with_port id (with_ring_on side (ring_edit side edit)) s
own_is id side (Head head) s = refl
own_is id side (Cur cur) s = refl
own_is id side (Positions head cur) s = refl
own_is id side AllBack s = refl
own_is id side (Slot at slot) s = refl
own_is id side (Forward slot) s = refl
own_is id side (Part len) s = refl
own_is id side (Frame len) s = refl

-- what is kept of the fields
places_edited : (id : PortId) (edit : RingEdit) (r : RingSlots) → named_ring_places id (edited edit r) ≡ named_ring_places id r
places_edited id (Head head) r = refl
places_edited id (Cur cur) r = refl
places_edited id (Positions head cur) r = refl
places_edited id AllBack r = refl
places_edited id (Forward slot) r = refl
places_edited id (Part len) r = refl
places_edited id (Frame len) r = refl
places_edited id (Slot at slot) r = elim (cases_Bool (is_user_slot r.ring at)) [
  | inl user ↦ rw user refl
  | inr other ↦ rw other refl
]

same_use : (edit : RingEdit) (r : RingSlots) → SameUse (edited edit r).ring r.ring
same_use (Head head) r = record { size = refl; accepted = refl; last = refl }
same_use (Cur cur) r = record { size = refl; accepted = refl; last = refl }
same_use (Positions head cur) r = record { size = refl; accepted = refl; last = refl }
same_use AllBack r = record { size = refl; accepted = refl; last = refl }
same_use (Forward slot) r = record { size = refl; accepted = refl; last = refl }
same_use (Part len) r = record { size = refl; accepted = refl; last = refl }
same_use (Frame len) r = record { size = refl; accepted = refl; last = refl }
same_use (Slot at slot) r = elim (cases_Bool (is_user_slot r.ring at)) [
  | inl user ↦ rw user (record { size = refl; accepted = refl; last = refl })
  | inr other ↦ rw other (record { size = refl; accepted = refl; last = refl })
]

is_ring_edited : (edit : RingEdit) (r : RingSlots) → IsRing r.ring → IsRing (edited edit r).ring
is_ring_edited (Head head) r is = record { is_size = is.is_size; accepted = is.accepted; within = is.within; one_tail = is.one_tail }
is_ring_edited (Cur cur) r is = record { is_size = is.is_size; accepted = is.accepted; within = is.within; one_tail = is.one_tail }
is_ring_edited (Positions head cur) r is = record { is_size = is.is_size; accepted = is.accepted; within = is.within; one_tail = is.one_tail }
is_ring_edited AllBack r is = record { is_size = is.is_size; accepted = is.accepted; within = is.within; one_tail = is.one_tail }
is_ring_edited (Forward slot) r is = record { is_size = is.is_size; accepted = is.accepted; within = is.within; one_tail = is.one_tail }
is_ring_edited (Part len) r is = record { is_size = is.is_size; accepted = is.accepted; within = is.within; one_tail = is.one_tail }
is_ring_edited (Frame len) r is = record { is_size = is.is_size; accepted = is.accepted; within = is.within; one_tail = is.one_tail }
is_ring_edited (Slot at slot) r is = elim (cases_Bool (is_user_slot r.ring at)) [
  | inl user ↦ rw user is
  | inr other ↦ rw other is
]

-- an edit is a change of a ring that keeps its places
pub edits_keep : (h : HoldState) (side : Side) (edit : RingEdit) → Keeps h side (λ (id : PortId). edited edit) (ring_edit side edit)
edits_keep h side edit = record {
  sides = λ id r. side_edited edit r;
  rings = λ id r is. is_ring_edited edit r is;
  places = λ id r. places_edited id edit r;
  same = λ id r. same_use edit r;
  seen = λ id r e is. ring_seen_edited h id side edit r e;
}

pub seen_edited : (h : HoldState) (id : ℕ) (side : Side) (edit : RingEdit) (ports : List UserPort) → AreSided ports → AreRings ports
    → own_seen h (map (port_edited_if id side edit) ports) ≡ own_edited id side edit (own_seen h ports)
seen_edited h id side edit ports sided rings = seen_changed h side (λ (id : PortId). edited edit) (ring_edit side edit) (edits_keep h side edit) id ports sided rings ∙ sym (own_is id side edit (own_seen h ports))
