-- The reset of a ring, slot by slot, and how it is seen.
use Rattle.std.proofs.Common.{ℕ, zero, suc, ◌≡◌, ◌<◌, ◌+◌, map, fold, refl, ◌∙◌, ap, arith}
use Rattle.std.specs.List.{range_with_len}
use Rattle.nm_types.specs.declared.id.PortId.{PortId}
use Rattle.nm_types.specs.declared.id.Side.{Side}
use Rattle.nm_types.specs.declared.id.Side.TheVariants.{Tx, Rx}
use Rattle.nm_types.specs.Positions.{IsRing, dist, step_on, user_slots}
use Rattle.nm_types.specs.Reset.{reset_positions}
use Rattle.nm_types.specs.OwnSyncs.{with_slot_reset, ring_after_reset}
use Rattle.nm_hold.specs.Holds.{HoldState}
use Rattle.nm_port.specs.RingSlots.{RingSlots}
use Rattle.nm_port.specs.Own.{held_on, ring_seen}
use Rattle.nm_port.specs.Resets.{slots_reset_at, ring_reset}
use Rattle.nm_own.proofs.Changing.{Keeps}
use Rattle.nm_port.proofs.Seeing.{buffer_seen}

-- two ways to change slots that agree at the slots from one on
fold-slots : {X : Type 0} (f g : X → ℕ → X) (x : X) (size first a n : ℕ) → ((y : X) (k : ℕ) → k < a + n → f y (step_on size first k) ≡ g y (step_on size first k))
    → fold f x (map (step_on size first) (range_with_len a n)) ≡ fold g x (map (step_on size first) (range_with_len a n))
fold-slots f g x size first a zero same = refl
fold-slots f g x size first a (suc n) same =
    ap (λ y. fold f y (map (step_on size first) (range_with_len (a + 1) n))) (same x a (omega arith))
    ∙ fold-slots f g (g x (step_on size first a)) size first (a + 1) n (λ y k below. same y k (omega arith))

held_after : (h : HoldState) (id : PortId) (side : Side) (r : RingSlots) → held_on h side id (reset_positions r.ring) ≡ held_on h side id r.ring
held_after h id Tx r = refl
held_after h id Rx r = refl

pub reset_is_seen : (h : HoldState) (id : PortId) (side : Side) (r : RingSlots) → r.side ≡ side → IsRing r.ring → ring_seen h id (ring_reset h id r) ≡ ring_after_reset side (ring_seen h id r)
reset_is_seen h id side r e is =
    let slots : fold (slots_reset_at h id r) r.slots (user_slots r.ring) ≡ fold (with_slot_reset side (ring_seen h id r)) r.slots (user_slots r.ring) =
    fold-slots (slots_reset_at h id r) (with_slot_reset side (ring_seen h id r)) r.slots r.ring.size r.ring.accepted_head 0 (dist r.ring.size r.ring.accepted_head r.ring.last_tail)
    (λ slots k below. rw (buffer_seen h id side r k e is (omega arith), e) refl) in
    rw (slots, held_after h id r.side r) refl

-- a reset is a change of a ring that keeps its places
pub resets_keep : (h : HoldState) (side : Side) → Keeps h side (ring_reset h) (ring_after_reset side)
resets_keep h side = record {
  sides = λ id r. refl;
  rings = λ id r is. record { is_size = is.is_size; accepted = is.accepted; within = omega (arith, is.within, is.one_tail); one_tail = refl };
  places = λ id r. refl;
  same = λ id r. record { size = refl; accepted = refl; last = refl };
  seen = λ id r e is. reset_is_seen h id side r e is;
}
