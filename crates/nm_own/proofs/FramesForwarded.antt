-- Frames that are forwarded one after another, each slot by slot.
use Rattle.std.proofs.Common.{ℕ, zero, suc, ◌≡◌, ◌<◌, ◌≤◌, ◌+◌, ◌-◌, ◌&&◌, ◌||◌, ◌==◌, Bool, true, false, not, cond, nat_le, nat_lt, List, [], ◌∷◌, length, map, Option, Some, None, is_none, inl, inr, refl, sym, ◌∙◌, ap, arith}
use Rattle.std.proofs.lemmas.Bool.{cases_Bool}
use Rattle.std.proofs.lemmas.Bool.Decides.{nat_tests}
use Rattle.std.proofs.lemmas.Option.{same_Some}
use Rattle.nm_types.specs.declared.id.PortId.{PortId}
use Rattle.nm_types.specs.declared.id.Side.TheVariants.{Tx, Rx}
use Rattle.nm_types.specs.Positions.{IsRing, dist, slots_from}
use Rattle.nm_types.specs.Slots.{SlotState}
use Rattle.nm_types.specs.SyncChecks.{ring_refusal}
use Rattle.nm_types.specs.OwnPorts.{OwnRing, OwnState, ring_at, slot_in}
use Rattle.nm_types.specs.OwnEdits.{has_slots, with_slot_forwarded, with_heads_forwarded, with_slots_forwarded, slots_to_end, slots_before_tail, frame_slots, can_forward, with_next_forwarded, frames_forwarded}
use Rattle.nm_types.proofs.Tests.{both_are, less_true}
use Rattle.nm_hold.specs.Holds.{HoldState}
use Rattle.nm_port.specs.RingSlots.{RingSlots, slot_at, slots_ahead, frame_ahead}
use Rattle.nm_port.specs.Own.{ring_seen}
use Rattle.nm_port.proofs.FrameEnds.{ends_within}
use Rattle.nm_port.proofs.Judging.{length-slots}
use Rattle.nm_own.specs.Acts.{front_slot_in, slots_to_go, slots_to_go_at, frame_to_go}
use Rattle.nm_own.proofs.RingTests.{has_slots-ahead}

next_is : (others : OwnState → OwnState) (whole : Bool) (from to : ℕ) (s : OwnState) (rx tx : Option OwnRing)
    → with_next_forwarded others whole from to s rx tx ≡ cond (nat_lt 0 (slots_to_go whole rx tx)) (others (with_slots_forwarded (slots_to_go whole rx tx) from to s)) s
next_is others whole from to s None tx = refl
next_is others whole from to s (Some rx) None = refl
next_is others whole from to s (Some rx) (Some tx) = one (can_forward whole rx tx) refl
  where
    n : ℕ
    n = frame_slots rx

    one : (b : Bool) → can_forward whole rx tx ≡ b → cond b (others (with_slots_forwarded n from to s)) s ≡ cond (nat_lt 0 (cond b n 0)) (others (with_slots_forwarded (cond b n 0) from to s)) s
    one true e = (let some = both_are (nat_lt 0 n) (has_slots n rx && (has_slots n tx && (not whole || n == 1))) e in rw some.0 refl)
    one false e = refl

forward_more : (whole : Bool) (n from to : ℕ) (s : OwnState) → 0 < n → nat_lt 0 (slots_to_go_at whole from to s) ≡ true
    → frames_forwarded whole n from to s ≡ frames_forwarded whole (n - 1) from to (with_slots_forwarded (slots_to_go_at whole from to s) from to s)
forward_more whole zero from to s some moved = absurd (omega arith)
forward_more whole (suc n) from to s some moved =
    let rest : suc n - 1 ≡ n = omega arith in
    next_is (frames_forwarded whole n from to) whole from to s (ring_at Rx s from) (ring_at Tx s to) ∙ rw (moved, rest) refl

forward_none : (whole : Bool) (n from to : ℕ) (s : OwnState) → nat_lt 0 (slots_to_go_at whole from to s) ≡ false → frames_forwarded whole n from to s ≡ s
forward_none whole zero from to s moved = refl
forward_none whole (suc n) from to s moved = next_is (frames_forwarded whole n from to) whole from to s (ring_at Rx s from) (ring_at Tx s to) ∙ rw moved refl

none_to_go : (n : ℕ) → nat_lt 0 n ≡ false → n ≡ 0
none_to_go n e = grind (arith, nat_tests)

-- a frame more that was forwarded, and one that was not
pub forwards_on : (whole : Bool) (k count from to : ℕ) (old now next : OwnState) (moved : Bool) → moved ≡ nat_lt 0 (slots_to_go_at whole from to now) → next ≡ with_slots_forwarded (slots_to_go_at whole from to now) from to now
    → moved ≡ true → k < count → frames_forwarded whole (count - k) from to now ≡ frames_forwarded whole count from to old → frames_forwarded whole (count - (k + 1)) from to next ≡ frames_forwarded whole count from to old
forwards_on whole k count from to old now next moved is after e below so_far =
    let rest : count - k - 1 ≡ count - (k + 1) = omega arith in
    let here = forward_more whole (count - k) from to now (omega arith) (sym is ∙ e) in
    ap (frames_forwarded whole (count - (k + 1)) from to) after
    ∙ (ap (λ (n : ℕ). frames_forwarded whole n from to (with_slots_forwarded (slots_to_go_at whole from to now) from to now)) (sym rest) ∙ (sym here ∙ so_far))

pub forwards_no_more : (whole : Bool) (k count from to : ℕ) (old now next : OwnState) (moved : Bool) → moved ≡ nat_lt 0 (slots_to_go_at whole from to now) → next ≡ with_slots_forwarded (slots_to_go_at whole from to now) from to now
    → moved ≡ false → frames_forwarded whole (count - k) from to now ≡ frames_forwarded whole count from to old → next ≡ frames_forwarded whole count from to old
forwards_no_more whole k count from to old now next moved is after e so_far =
    let none : slots_to_go_at whole from to now ≡ 0 = none_to_go (slots_to_go_at whole from to now) (sym is ∙ e) in
    let same : next ≡ now = after ∙ ap (λ (n : ℕ). with_slots_forwarded n from to now) none in
    same ∙ (sym (forward_none whole (count - k) from to now (sym is ∙ e)) ∙ so_far)

-- a slot more of a frame
pub slot_goes : (k count from to : ℕ) (old now next : OwnState) → k < count → next ≡ with_heads_forwarded from to now (ring_at Rx now from) (ring_at Tx now to)
    → with_slots_forwarded (count - k) from to now ≡ with_slots_forwarded count from to old → with_slots_forwarded (count - (k + 1)) from to next ≡ with_slots_forwarded count from to old
slot_goes k count from to old now next below after so_far =
    let left : count - k ≡ suc (count - (k + 1)) = omega arith in
    ap (with_slots_forwarded (count - (k + 1)) from to) after ∙ (ap (λ (n : ℕ). with_slots_forwarded n from to now) (sym left) ∙ so_far)

-- the slots at the heads, where there are both rings
pub heads_are : (from to : ℕ) (s : OwnState) (got free : SlotState) (rx tx : Option OwnRing) → front_slot_in Rx rx ≡ Some got → front_slot_in Tx tx ≡ Some free
    → with_heads_forwarded from to s rx tx ≡ with_slot_forwarded from to got free s
heads_are from to s got free None tx e f = absurd cc
heads_are from to s got free (Some rx) None e f = absurd cc
heads_are from to s got free (Some rx) (Some tx) e f =
    let one : slot_in Rx rx rx.ring.head ≡ got = same_Some (slot_in Rx rx rx.ring.head) got e in
    let two : slot_in Tx tx tx.ring.head ≡ free = same_Some (slot_in Tx tx tx.ring.head) free f in
    ap (λ (x : SlotState). with_slot_forwarded from to x (slot_in Tx tx tx.ring.head) s) one ∙ ap (λ (x : SlotState). with_slot_forwarded from to got x s) two

pub no_heads : (from to : ℕ) (s : OwnState) (rx tx : Option OwnRing) → front_slot_in Rx rx ≡ None → with_heads_forwarded from to s rx tx ≡ s
no_heads from to s None tx e = refl
no_heads from to s (Some rx) tx e = absurd cc

pub no_other_head : (from to : ℕ) (s : OwnState) (rx tx : Option OwnRing) → front_slot_in Tx tx ≡ None → with_heads_forwarded from to s rx tx ≡ s
no_other_head from to s None tx e = refl
no_other_head from to s (Some rx) None e = refl
no_other_head from to s (Some rx) (Some tx) e = absurd cc

one_of : (b : Bool) (n : ℕ) → cond b n n ≡ n
one_of true n = refl
one_of false n = refl

-- how many slots go, as the rings are kept
go_fits : (whole : Bool) (n ahead : ℕ) (here there : Bool) → (1 ≤ n → here ≡ true) → (1 ≤ n → there ≡ nat_le n ahead)
    → cond (nat_le n ahead && (not whole || n == 1)) n 0 ≡ cond (nat_lt 0 n && (here && (there && (not whole || n == 1)))) n 0
go_fits whole zero ahead here there a b = one_of (nat_le 0 ahead && (not whole || 0 == 1)) 0
go_fits whole (suc n) ahead here there a b =
    let some : nat_lt 0 (suc n) ≡ true = less_true 0 (suc n) (omega arith) in
    rw (some, a (omega arith), b (omega arith)) refl

go_unfit : (n : ℕ) (rest : Bool) → cond (nat_lt 0 n && (false && rest)) n 0 ≡ 0
go_unfit n rest = by (nat_lt 0 n)
  where
    by : (b : Bool) → cond (b && (false && rest)) n 0 ≡ 0
    by true = refl
    by false = refl

module _ (whole : Bool) (h : HoldState) (from to : PortId) (got free : RingSlots) (side : got.side ≡ Rx) (got_is : IsRing got.ring) (free_is : IsRing free.ring) where
  abbrev rx : OwnRing
  rx = ring_seen h from got

  abbrev tx : OwnRing
  tx = ring_seen h to free

  same_slots : (ats : List ℕ) → map (slot_at got) ats ≡ map (slot_in Rx rx) ats
  same_slots [] = refl
  same_slots (at ∷ ats) =
      let one : slot_at got at ≡ slot_in Rx rx at = rw side refl in
      ap (λ (x : SlotState). x ∷ map (slot_at got) ats) one ∙ ap (λ (xs : List SlotState). slot_in Rx rx at ∷ xs) (same_slots ats)

  frame_as_seen : is_none (ring_refusal got.ring got.ring.head got.ring.cur) ≡ true → frame_ahead got ≡ frame_slots rx
  frame_as_seen fits =
      let ahead : slots_ahead got.ring ≡ dist got.ring.size got.ring.head got.ring.tail = rw (fits, got_is.one_tail) refl in
      ap (λ (n : ℕ). slots_to_end (map (slot_at got) (slots_from got.ring.size got.ring.head n))) ahead
      ∙ ap slots_to_end (same_slots (slots_from got.ring.size got.ring.head (dist got.ring.size got.ring.head got.ring.tail)))

  has_frame : is_none (ring_refusal got.ring got.ring.head got.ring.cur) ≡ true → has_slots (frame_slots rx) rx ≡ true
  has_frame fits =
      let most = ends_within (slots_before_tail rx) in
      let long : length (slots_before_tail rx) ≡ dist got.ring.size got.ring.head got.ring.tail = length-slots (slot_in Rx rx) got.ring.size got.ring.head (dist got.ring.size got.ring.head got.ring.tail) in
      let enough : nat_le (frame_slots rx) (dist got.ring.size got.ring.head got.ring.tail) ≡ true = at_most (frame_slots rx) (length (slots_before_tail rx)) (dist got.ring.size got.ring.head got.ring.tail) most long in
      rw (fits, enough) refl
    where
      at_most : (n m d : ℕ) → n ≤ m → m ≡ d → nat_le n d ≡ true
      at_most n m d most long = grind (arith, nat_tests)

  pub goes_as_seen : frame_to_go whole got free ≡ slots_to_go whole (Some rx) (Some tx)
  goes_as_seen = elim (cases_Bool (is_none (ring_refusal got.ring got.ring.head got.ring.cur))) [
    | inl fits ↦ ap (λ (n : ℕ). cond (nat_le n (slots_ahead free.ring) && (not whole || n == 1)) n 0) (frame_as_seen fits)
        ∙ go_fits whole (frame_slots rx) (slots_ahead free.ring) (has_slots (frame_slots rx) rx) (has_slots (frame_slots rx) tx) (λ some. has_frame fits) (λ some. has_slots-ahead (frame_slots rx) tx free_is some)
    | inr other ↦ (let none : frame_ahead got ≡ 0 = rw other refl in
        let lacks : has_slots (frame_slots rx) rx ≡ false = rw other refl in
        ap (λ (n : ℕ). cond (nat_le n (slots_ahead free.ring) && (not whole || n == 1)) n 0) none ∙ (one_of (nat_le 0 (slots_ahead free.ring) && (not whole || 0 == 1)) 0 ∙ sym (unfit (has_slots (frame_slots rx) rx) lacks)))
  ]
    where
      unfit : (b : Bool) → b ≡ false → cond (nat_lt 0 (frame_slots rx) && (b && (has_slots (frame_slots rx) tx && (not whole || frame_slots rx == 1)))) (frame_slots rx) 0 ≡ 0
      unfit b e = ap (λ (x : Bool). cond (nat_lt 0 (frame_slots rx) && (x && (has_slots (frame_slots rx) tx && (not whole || frame_slots rx == 1)))) (frame_slots rx) 0) e ∙ go_unfit (frame_slots rx) (has_slots (frame_slots rx) tx && (not whole || frame_slots rx == 1))
