-- Slots that lie side by side, and loops over a ring that go on by as many slots at a time.
use Rattle.std.proofs.Common.{ℕ, zero, fold, set, suc, ◌≡◌, ◌<◌, ◌≤◌, ◌+◌, ◌-◌, List, [], ◌∷◌, ◌++◌, length, map, inl, inr, refl, sym, ◌∙◌, ap, subst, arith}
use Rattle.std.specs.Prelude.{min, slice_get, slice_index_or, Some}
use Rattle.std.specs.List.{range_with_len}
use Rattle.std.proofs.lemmas.Bool.{cases_lt}
use Rattle.std.proofs.lemmas.List.{set-get_or, map-append, length-append, get_or_append_left, get_or-append-add}
use Rattle.std.proofs.Math.Nat.{mod-eq_of_lt}
use Rattle.nm_types.specs.declared.id.Side.{Side}
use Rattle.nm_types.specs.declared.id.Side.TheVariants.{Tx, Rx}
use Rattle.nm_types.specs.Positions.{dist, step_on, slots_from}
use Rattle.nm_types.specs.Slots.{SlotState, slot_after_push}
use Rattle.nm_types.specs.OwnSyncs.{with_push_cleared}
use Rattle.nm_types.specs.OwnPorts.{index_of, blank_slot}
use Rattle.nm_types.proofs.RingSteps.{dist-below, dist-step_on, step_on-below, step_on-step_on, slots_from-add}
use Rattle.nm_port.proofs.SlotLists.{fold-slots_from}
use Rattle.nm_port.specs.RingSlots.{RingSlots, IsRingSlots, slot_count, slot_at, AreSideBySide}
use Rattle.nm_port.specs.Sides.{name_at, IsPlain}
use Rattle.nm_port.specs.Exchanges.{user_position, KeepAll, KeepFirst}

-- what holds of the first numbers and of as many more behind them
pub below_more : (P : ℕ → Type 0) (k n : ℕ) → ((j : ℕ) → j < k → P j) → ((j : ℕ) → j < n → P (k + j)) → (j : ℕ) → j < k + n → P j
below_more P k n before here j below = elim (cases_lt j k) [
  | inl earlier ↦ before j earlier
  | inr later ↦ (let same : k + (j - k) ≡ j = omega arith in subst P same (here (j - k) (omega arith)))
]

-- elements read one by one are the list of what was read
listed : {X : Type 0} (f : ℕ → X) (xs : List X) (d : X) (size first a : ℕ) → ((j : ℕ) → j < length xs → slice_index_or xs j d ≡ f (step_on size first (a + j)))
    → xs ≡ map f (map (step_on size first) (range_with_len a (length xs)))
listed f [] d size first a reads = refl
listed {X = X} f (x ∷ xs) d size first a reads =
    let none : a + 0 ≡ a = omega arith in
    let head : x ≡ f (step_on size first a) = reads 0 (omega arith) ∙ ap (λ (n : ℕ). f (step_on size first n)) none in
    let rest = listed f xs d size first (a + 1) (λ j below. (let same : a + suc j ≡ a + 1 + j = omega arith in reads (suc j) (omega arith) ∙ ap (λ (n : ℕ). f (step_on size first n)) same)) in
    ap (λ (y : X). y ∷ xs) head ∙ ap (λ (ys : List X). f (step_on size first a) ∷ ys) rest

-- slots none of which announces a changed buffer
pub none_cleared : (slots : List SlotState) (size first n : ℕ) → ((j : ℕ) → j < n → with_push_cleared slots (step_on size first j) ≡ slots) → fold with_push_cleared slots (slots_from size first n) ≡ slots
none_cleared slots size first zero same = refl
none_cleared slots size first (suc n) same =
    let next : suc n ≡ n + 1 = omega arith in
    let before = none_cleared slots size first n (λ j below. same j (omega (arith, below))) in
    ap (λ (m : ℕ). fold with_push_cleared slots (slots_from size first m)) next
    ∙ (fold-slots_from with_push_cleared slots size first n ∙ (ap (λ (s : List SlotState). with_push_cleared s (step_on size first n)) before ∙ same n (omega arith)))

module _ (r : RingSlots) (steps : ℕ) (slots : List SlotState) (are : AreSideBySide r steps slots) where
  -- so many more of the slots from the accepted head on
  pub slots_more : {X : Type 0} (f : SlotState → X) → map (λ (at : ℕ). f (slot_at r at)) (slots_from r.ring.size r.ring.accepted_head (steps + length slots))
      ≡ map (λ (at : ℕ). f (slot_at r at)) (slots_from r.ring.size r.ring.accepted_head steps) ++ map f slots
  slots_more {X = X} f =
      let first = user_position r steps in
      let n = length slots in
      let read : slots ≡ map (slot_at r) (slots_from r.ring.size first n) = listed (slot_at r) slots blank_slot r.ring.size first 0
      (λ j below. (let none : 0 + j ≡ j = omega arith in are.stand j below ∙ (ap (slot_at r) (sym (step_on-step_on r.ring.size r.ring.accepted_head steps j)) ∙ ap (λ (i : ℕ). slot_at r (step_on r.ring.size first i)) (sym none)))) in
      let frames : map (λ (at : ℕ). f (slot_at r at)) (slots_from r.ring.size first n) ≡ map f slots = over f (slots_from r.ring.size first n) ∙ ap (map f) (sym read) in
      ap (map (λ (at : ℕ). f (slot_at r at))) (slots_from-add r.ring.size r.ring.accepted_head steps n)
      ∙ (map-append (λ (at : ℕ). f (slot_at r at)) (slots_from r.ring.size r.ring.accepted_head steps) (slots_from r.ring.size first n)
      ∙ ap (λ (xs : List X). map (λ (at : ℕ). f (slot_at r at)) (slots_from r.ring.size r.ring.accepted_head steps) ++ xs) frames)
    where
      over : {X : Type 0} (f : SlotState → X) (ats : List ℕ) → map (λ (at : ℕ). f (slot_at r at)) ats ≡ map f (map (slot_at r) ats)
      over f [] = refl
      over {X = X} f (at ∷ ats) = ap (λ (xs : List X). f (slot_at r at) ∷ xs) (over f ats)

  -- a slot of a transmit ring that announces nothing is the same once its announcement is cleared
  pub cleared_here : r.side ≡ Tx → (j : ℕ) → j < length slots → slot_after_push (slice_index_or slots j blank_slot) ≡ slice_index_or slots j blank_slot → with_push_cleared r.slots (user_position r (steps + j)) ≡ r.slots
  cleared_here side j below same =
      let at = user_position r (steps + j) in
      let here : slice_index_or slots j blank_slot ≡ slice_index_or r.slots at blank_slot = are.stand j below ∙ ap (λ (s : Side). slice_index_or r.slots (index_of s r.ring at) blank_slot) side in
      ap (set r.slots at) (ap slot_after_push (sym here) ∙ (same ∙ here)) ∙ set-get_or r.slots at blank_slot

  module _ (numbers rest : List ℕ) (from : (j : ℕ) → slice_index_or rest j 0 ≡ slice_index_or numbers (user_position r steps + j) 0) where
    number_here : (j : ℕ) → j < length slots → slice_index_or numbers (user_position r (steps + j)) 0 ≡ slice_index_or rest j 0
    number_here j below = ap (λ (at : ℕ). slice_index_or numbers at 0) (are.positions j below) ∙ sym (from j)

    names_here : (j : ℕ) → j < length slots → slice_index_or rest j 0 ≡ (slice_index_or slots j blank_slot).buf_idx → slice_index_or numbers (user_position r (steps + j)) 0 ≡ name_at r (user_position r (steps + j))
    names_here j below own = number_here j below ∙ (own ∙ ap (λ (s : SlotState). s.buf_idx) (are.stand j below))

    pub names_more : (n : ℕ) → n ≤ length slots → KeepFirst r numbers steps → ((j : ℕ) → j < n → slice_index_or rest j 0 ≡ (slice_index_or slots j blank_slot).buf_idx) → KeepFirst r numbers (steps + n)
    names_more n few before here = below_more (λ (j : ℕ). slice_index_or numbers (user_position r j) 0 ≡ name_at r (user_position r j)) steps n before (λ j below. names_here j (omega (arith, below, few)) (here j below))

  -- slots that name the buffers in their places, as these numbers tell, behind others that do
  pub matched_more : (numbers rest : List ℕ) → ((j : ℕ) → slice_get rest j ≡ slice_get numbers (user_position r steps + j)) → KeepAll r numbers steps
      → ((j : ℕ) → j < length slots → slice_get rest j ≡ Some (slice_index_or slots j blank_slot).buf_idx) → KeepAll r numbers (steps + length slots)
  matched_more numbers rest from before here =
      below_more (λ (j : ℕ). slice_get numbers (user_position r j) ≡ Some (name_at r (user_position r j))) steps (length slots) before
      (λ j below. ap (slice_get numbers) (are.positions j below) ∙ (sym (from j) ∙ (here j below ∙ ap (λ (s : SlotState). Some s.buf_idx) (are.stand j below))))

  -- slots that neither marks nor lengths refuse, behind others
  pub plain_more : ((k : ℕ) → k < steps → IsPlain (slot_at r (user_position r k))) → ((j : ℕ) → j < length slots → IsPlain (slice_index_or slots j blank_slot))
      → (k : ℕ) → k < steps + length slots → IsPlain (slot_at r (user_position r k))
  plain_more before here = below_more (λ (k : ℕ). IsPlain (slot_at r (user_position r k))) steps (length slots) before (λ j below. subst IsPlain (are.stand j below) (here j below))

-- the least of two numbers
min_left : (a b : ℕ) → min a b ≤ a
min_left a b = omega arith

min_right : (a b : ℕ) → min a b ≤ b
min_right a b = omega arith

min_some : (a b : ℕ) → 0 < a → 0 < b → 0 < min a b
min_some a b first second = omega arith

-- the slots from a position on that is so many steps behind the accepted head, in a list that lies in two
-- parts
pub record Cut (r : RingSlots) (at steps most : ℕ) (front back : List SlotState) (size part index : ℕ) : Type 0 where
  pub is : IsRingSlots r
  pub there : at ≡ step_on r.ring.size r.ring.accepted_head steps
  pub user : steps + most ≤ dist r.ring.size r.ring.accepted_head r.ring.last_tail
  pub some : 0 < most
  pub items : front ++ back ≡ r.slots
  pub sized : size ≡ r.ring.size
  pub is_part : part ≡ min most (size - at)
  pub is_index : index ≡ index_of r.side r.ring at

module _ {r : RingSlots} {at steps most : ℕ} {front back : List SlotState} {size part index : ℕ} (cut : Cut r at steps most front back size part index) where
  at_below : at < r.ring.size
  at_below = rw (cut.there) (step_on-below r.ring.size r.ring.accepted_head steps cut.is.ring.accepted)

  steps_below : steps + most < r.ring.size
  steps_below = let all = dist-below r.ring.size r.ring.accepted_head r.ring.last_tail cut.is.ring.accepted in omega (arith, all, cut.user)

  position_more : (j : ℕ) → at + j < r.ring.size → step_on r.ring.size r.ring.accepted_head (steps + j) ≡ at + j
  position_more j below = sym (step_on-step_on r.ring.size r.ring.accepted_head steps j) ∙ (ap (λ (i : ℕ). step_on r.ring.size i j) (sym cut.there) ∙ mod-eq_of_lt below)

  steps_there : dist r.ring.size r.ring.accepted_head at ≡ steps
  steps_there = ap (dist r.ring.size r.ring.accepted_head) cut.there ∙ dist-step_on r.ring.size r.ring.accepted_head steps cut.is.ring.accepted (omega (arith, steps_below))

  index_on : (side : Side) (j : ℕ) → j < most → at + j < r.ring.size → index_of side r.ring (step_on r.ring.size r.ring.accepted_head (steps + j)) ≡ index_of side r.ring at + j
  index_on Tx j few below = position_more j below
  index_on Rx j few below =
      let more : dist r.ring.size r.ring.accepted_head (step_on r.ring.size r.ring.accepted_head (steps + j)) ≡ steps + j = dist-step_on r.ring.size r.ring.accepted_head (steps + j) cut.is.ring.accepted (omega (arith, steps_below, few)) in
      more ∙ sym (ap (λ (i : ℕ). i + j) steps_there)

  within_on : (side : Side) → index_of side r.ring at < slot_count side r.ring
  within_on Tx = at_below
  within_on Rx = omega (arith, steps_there, cut.user, cut.some)

  index_within : index_of r.side r.ring at < length r.slots
  index_within = rw (cut.is.count) (within_on r.side)

  are_side_by_side : (slots : List SlotState) → length slots ≤ most → at + length slots ≤ r.ring.size
      → ((j : ℕ) → j < length slots → slice_index_or slots j blank_slot ≡ slice_index_or r.slots (index_of r.side r.ring at + j) blank_slot) → AreSideBySide r steps slots
  are_side_by_side slots few around reads = record {
    stand = λ j below. reads j below ∙ ap (λ (i : ℕ). slice_index_or r.slots i blank_slot) (sym (index_on r.side j (omega (arith, below, few)) (omega (arith, below, around))));
    positions = λ j below. position_more j (omega (arith, below, around)) ∙ ap (λ (i : ℕ). i + j) cut.there;
  }

  part_few : part ≤ most
  part_few = let left = min_left most (size - at) in omega (arith, cut.is_part, left)

  part_around : at + part ≤ r.ring.size
  part_around = let right = min_right most (size - at) in let below = at_below in omega (arith, cut.is_part, right, cut.sized, below)

  part_some : 0 < part
  part_some = let below = at_below in let more = min_some most (size - at) cut.some (omega (arith, cut.sized, below)) in omega (arith, cut.is_part, more)

  inside : index_of r.side r.ring at < length front + length back
  inside =
      let count : length r.slots ≡ length front + length back = sym (ap (λ (xs : List SlotState). length xs) cut.items) ∙ length-append front back in
      let within = index_within in
      omega (arith, count, within)

  read_on : (j : ℕ) → slice_index_or (front ++ back) (index + j) blank_slot ≡ slice_index_or r.slots (index_of r.side r.ring at + j) blank_slot
  read_on j = ap (λ (xs : List SlotState). slice_index_or xs (index + j) blank_slot) cut.items ∙ ap (λ (i : ℕ). slice_index_or r.slots (i + j) blank_slot) cut.is_index

  pub in_front : (slots : List SlotState) → index < length front → length slots ≡ min part (length front - index)
      → ((j : ℕ) → j < length slots → slice_index_or slots j blank_slot ≡ slice_index_or front (index + j) blank_slot) → AreSideBySide r steps slots
  in_front slots first count reads =
      let left = min_left part (length front - index) in
      let right = min_right part (length front - index) in
      let few = part_few in
      let around = part_around in
      are_side_by_side slots (omega (arith, count, left, few)) (omega (arith, count, left, around))
      (λ j below. (let within : index + j < length front = omega (arith, count, right, below, first) in
      reads j below ∙ (sym (get_or_append_left front back blank_slot (index + j) within) ∙ read_on j)))

  module _ (behind : length front ≤ index) where
    pub back_within : index - length front < length back
    back_within = let within = inside in omega (arith, within, cut.is_index, behind)

    module _ (slots : List SlotState) (count : length slots ≡ min part (length back - (index - length front))) where
      pub back_some : 0 < length slots
      back_some =
          let within = back_within in
          let some = part_some in
          let more = min_some part (length back - (index - length front)) some (omega (arith, within)) in
          omega (arith, count, more)

      pub in_back : ((j : ℕ) → j < length slots → slice_index_or slots j blank_slot ≡ slice_index_or back (index - length front + j) blank_slot) → AreSideBySide r steps slots
      in_back reads =
          let left = min_left part (length back - (index - length front)) in
          let few = part_few in
          let around = part_around in
          are_side_by_side slots (omega (arith, count, left, few)) (omega (arith, count, left, around))
          (λ j below. (let place : length front + (index - length front + j) ≡ index + j = omega (arith, behind) in
          reads j below ∙ (sym (get_or-append-add front back (index - length front + j) blank_slot) ∙ (ap (λ (i : ℕ). slice_index_or (front ++ back) i blank_slot) place ∙ read_on j))))
