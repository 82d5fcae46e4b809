-- Copies of one frame, written one after another.
use Rattle.std.proofs.Common.{ℕ, zero, suc, ◌≡◌, ◌≤◌, ◌+◌, ◌<◌, min, true, List, length, refl, ◌∙◌, ap, subst, arith}
use Rattle.nm_types.specs.declared.id.Side.TheVariants.{Tx}
use Rattle.nm_hold.specs.Holds.{HoldState}
use Rattle.nm_types.specs.Positions.{IsRing}
use Rattle.nm_port.specs.RingSlots.{RingSlots, head_has_slot, slots_ahead}
use Rattle.nm_own.specs.declared.edit.RingEdit.TheVariants.{Frame}
use Rattle.nm_own.specs.Edits.{edited}
use Rattle.nm_own.specs.CopiesIn.{ring_behind, named_at_head, IsFronted, AreWritten, ArePutIn}
use Rattle.nm_own.proofs.SlotsAhead.{none_left}

next_one : (count : ℕ) → suc count ≡ count + 1
next_one count = omega arith

-- the side stays
pub side_behind : (count len : ℕ) (r now : RingSlots) → now ≡ ring_behind count len r → r.side ≡ Tx → now.side ≡ Tx
side_behind count len r now is tx = ap (λ (x : RingSlots). x.side) is ∙ (stays count ∙ tx)
  where
    stays : (count : ℕ) → (ring_behind count len r).side ≡ r.side
    stays zero = refl
    stays (suc count) = stays count

-- one copy more
pub ring_more : (count len : ℕ) (r was now : RingSlots) → was ≡ ring_behind count len r → now ≡ edited (Frame len) was → now ≡ ring_behind (count + 1) len r
ring_more count len r was now is next = next ∙ (ap (edited (Frame len)) is ∙ ap (λ (n : ℕ). ring_behind n len r) (next_one count))

pub written_more : (count idx : ℕ) (bytes : List ℕ) (r was : RingSlots) (h before new : HoldState) → was ≡ ring_behind count (length bytes) r → AreWritten count bytes r h before → head_has_slot was.ring ≡ true
    → idx ≡ named_at_head was → IsFronted idx bytes before new → AreWritten (count + 1) bytes r h new
written_more count idx bytes r was h before new is written has names fronted =
    subst (λ (n : ℕ). AreWritten n bytes r h new) (next_one count)
    (before, written, subst (λ (x : RingSlots). head_has_slot x.ring ≡ true) is has, subst (λ (i : ℕ). IsFronted i bytes before new) (names ∙ ap named_at_head is) fronted)

-- of as many as are wanted, or find a slot, none is left out
pub least_put : (wanted put least seen : ℕ) (bytes : List ℕ) (r : RingSlots) (h new : HoldState) → IsRing r.ring → put ≡ least → seen ≡ slots_ahead r.ring → least ≡ min seen wanted → AreWritten put bytes r h new
    → ArePutIn wanted least bytes r h new
least_put wanted put least seen bytes r h new is all ahead at written = record {
  most = under least seen wanted at;
  written = subst (λ (n : ℕ). AreWritten n bytes r h new) all written;
  full = λ more. ap (λ (n : ℕ). head_has_slot (ring_behind n (length bytes) r).ring) (first least seen wanted at more ∙ ahead) ∙ none_left (length bytes) r is;
}
  where
    under : (least seen wanted : ℕ) → least ≡ min seen wanted → least ≤ wanted
    under least seen wanted at = grind arith

    first : (least seen wanted : ℕ) → least ≡ min seen wanted → least < wanted → least ≡ seen
    first least seen wanted at more = grind arith
