-- The slots of a ring as a list, changed one after another.
use Rattle.std.proofs.Common.{ℕ, ◌≡◌, ◌<◌, ◌≤◌, ◌+◌, ◌%◌, add-zero, List, [], ◌∷◌, length, get_or, set, fold, refl, sym, ◌∙◌, ap, arith}
use Rattle.std.proofs.lemmas.List.{length-set, get_or_read}
use Rattle.std.proofs.lemmas.List.FromFn.{map-range_with_len_more}
use Rattle.std.proofs.lemmas.List.Sums.{fold-append}
use Rattle.std.proofs.Math.Nat.{mod-eq_of_lt}
use Rattle.nm_types.specs.Positions.{RingState, IsRing, FitsRing, advanced, step_on, slots_from, kernel_count}
use Rattle.nm_types.proofs.RingSteps.{dist_self, step_on-step_on}
use Rattle.nm_types.specs.Slots.{SlotState, slot_after_push}
use Rattle.nm_types.specs.declared.id.PortId.{PortId}
use Rattle.nm_types.specs.declared.id.Side.TheVariants.{Tx}
use Rattle.nm_types.specs.OwnPorts.{index_of, blank_slot}
use Rattle.nm_types.specs.OwnSyncs.{with_push_cleared, accepted}
use Rattle.nm_hold.specs.Holds.{HoldState}
use Rattle.nm_port.specs.RingSlots.{RingSlots, slot_at, with_slot_at, with_slot_reset_at}
use Rattle.nm_port.specs.Own.{number_on}
use Rattle.nm_port.specs.Puts.{with_slot_named}
use Rattle.nm_port.specs.Resets.{slots_reset_at}

-- one slot more behind those changed so far
pub fold-slots_from : {X : Type 0} (f : X → ℕ → X) (x : X) (size first k : ℕ) → fold f x (slots_from size first (k + 1)) ≡ f (fold f x (slots_from size first k)) (step_on size first k)
fold-slots_from f x size first k = ap (fold f x) (map-range_with_len_more (step_on size first) 0 k k (omega arith)) ∙ fold-append f x (slots_from size first k) (step_on size first k ∷ [])

pub length-cleared : (slots : List SlotState) (ats : List ℕ) → length (fold with_push_cleared slots ats) ≡ length slots
length-cleared slots [] = refl
length-cleared slots (at ∷ ats) = length-cleared (with_push_cleared slots at) ats ∙ length-set slots at (slot_after_push (get_or slots at blank_slot))

-- the next slot cleared, as it is read and written
pub cleared_next : (slots now : List SlotState) (size first k : ℕ) (slot new : SlotState) → now ≡ fold with_push_cleared slots (slots_from size first k)
    → step_on size first k < length now → slot ≡ get_or now (step_on size first k) slot → new ≡ slot_after_push slot
    → set now (step_on size first k) new ≡ fold with_push_cleared slots (slots_from size first (k + 1))
cleared_next slots now size first k slot new e within read changed =
    let at : slot ≡ get_or now (step_on size first k) blank_slot = get_or_read now (step_on size first k) slot within read blank_slot in
    ap (set now (step_on size first k)) (changed ∙ ap slot_after_push at)
    ∙ (ap (λ (s : List SlotState). with_push_cleared s (step_on size first k)) e ∙ sym (fold-slots_from with_push_cleared slots size first k))

step_on-none : (size at : ℕ) → at < size → step_on size at 0 ≡ at
step_on-none size at h = ap (λ (n : ℕ). n % size) (add-zero at) ∙ mod-eq_of_lt h

-- a head that is accepted while the tail stays
pub accepted_none : (ring : RingState) → IsRing ring → advanced ring ring.head ring.cur ring.tail ≡ accepted 0 ring
accepted_none ring is = ap (advanced ring ring.head ring.cur) (is.one_tail ∙ sym (step_on-none ring.size ring.last_tail (omega arith)))

-- a head that is accepted, and then a tail that goes on
pub accepted_then : (ring : RingState) (taken : ℕ) → accepted taken (accepted 0 ring) ≡ accepted taken ring
accepted_then ring taken = let none : 0 + taken ≡ taken = omega arith in ap (advanced ring ring.head ring.cur) (step_on-step_on ring.size ring.last_tail 0 taken ∙ ap (step_on ring.size ring.last_tail) none)

pub tail_stays : (ring : RingState) → IsRing ring → step_on ring.size ring.last_tail 0 ≡ ring.last_tail
tail_stays ring is = let within = is.within in let one = is.one_tail in step_on-none ring.size ring.last_tail (omega arith)

pub still_fits : (ring : RingState) → IsRing ring → FitsRing ring ring.head ring.cur → FitsRing (accepted 0 ring) ring.head ring.cur
still_fits ring is fits = record {
  head_within = fits.head_within;
  cur_within = fits.cur_within;
  head_reach = (let none = dist_self ring.size ring.head fits.head_within in omega arith);
  cur_reach = rw (tail_stays ring is) fits.cur_reach;
}

pub still_room : (ring : RingState) (taken : ℕ) → IsRing ring → taken ≤ kernel_count ring.size ring.head ring.last_tail → taken ≤ kernel_count ring.size ring.head (accepted 0 ring).last_tail
still_room ring taken is few = rw (tail_stays ring is) few

pub accepted_ring : (ring : RingState) (tail : ℕ) → IsRing ring → ring.head < ring.size → tail < ring.size → IsRing (advanced ring ring.head ring.cur tail)
accepted_ring ring tail is head below = record { is_size = is.is_size; accepted = head; within = below; one_tail = refl }

-- the next slot named, as it is read and written
pub named_next : (h : HoldState) (id : PortId) (r now : RingSlots) (size first k : ℕ) (new : SlotState) → r.side ≡ Tx → now ≡ record r { slots = fold (with_slot_named h id) r.slots (slots_from size first k) }
    → new ≡ record (slot_at now (step_on size first k)) { buf_idx = number_on h Tx id (step_on size first k) }
    → with_slot_at (step_on size first k) new now ≡ record r { slots = fold (with_slot_named h id) r.slots (slots_from size first (k + 1)) }
named_next h id r now size first k new side e made =
    let at = step_on size first k in
    let n = number_on h Tx id at in
    let done = fold (with_slot_named h id) r.slots (slots_from size first k) in
    let one : index_of r.side r.ring at ≡ at = rw side refl in
    let slot : new ≡ record (get_or done at blank_slot) { buf_idx = n } =
    made ∙ (ap (λ (x : RingSlots). record (slot_at x at) { buf_idx = n }) e ∙ ap (λ (i : ℕ). record (get_or done i blank_slot) { buf_idx = n }) one) in
    ap (with_slot_at at new) e
    ∙ ap (λ (slots : List SlotState). record r { slots = slots }) (ap (λ (i : ℕ). set done i new) one ∙ (ap (set done at) slot ∙ sym (fold-slots_from (with_slot_named h id) r.slots size first k)))

-- one slot more is reset
pub reset_next : (h : HoldState) (port : PortId) (r now : RingSlots) (size first k was : ℕ) → now ≡ record r { slots = fold (slots_reset_at h port r) r.slots (slots_from size first k) }
    → was ≡ number_on h r.side port (step_on size first k) → with_slot_reset_at (step_on size first k) was now ≡ record r { slots = fold (slots_reset_at h port r) r.slots (slots_from size first (k + 1)) }
reset_next h port r now size first k was e number =
    let at = step_on size first k in
    let step : with_slot_reset_at at was now ≡ record r { slots = slots_reset_at h port r (fold (slots_reset_at h port r) r.slots (slots_from size first k)) at } = rw (e, number) refl in
    step ∙ ap (λ (slots : List SlotState). record r { slots = slots }) (sym (fold-slots_from (slots_reset_at h port r) r.slots size first k))
