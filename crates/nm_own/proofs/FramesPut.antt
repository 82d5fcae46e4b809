-- A long frame that is put part by part.
use Rattle.std.proofs.Common.{ℕ, suc, ◌≡◌, ◌≤◌, ◌<◌, ◌+◌, ◌-◌, ◌*◌, ◌==◌, Bool, true, false, not, cond, nat_eq, nat_le, List, [], ◌∷◌, length, take, drop, Option, Some, None, inl, inr, refl, sym, ◌∙◌, ap, arith}
use Rattle.std.specs.Int.{div_ceil}
use Rattle.std.specs.Option.{option_map_or}
use Rattle.std.proofs.lemmas.Bool.{cases_Bool, leb-true, leb-false, le-leb}
use Rattle.std.proofs.lemmas.Bool.Decides.{nat_tests}
use Rattle.std.proofs.lemmas.Grind.{div_ceil_times}
use Rattle.std.proofs.lemmas.List.{length-drop}
use Rattle.std.proofs.lemmas.Option.{same_Some}
use Rattle.nm_types.specs.declared.id.Side.TheVariants.{Tx}
use Rattle.nm_types.specs.Parts.{slots_of_length, first_parts, parts_of}
use Rattle.nm_types.specs.Slots.{SlotState}
use Rattle.nm_types.specs.OwnPorts.{OwnRing, OwnState, ring_at, slot_in, with_ring}
use Rattle.nm_types.specs.OwnEdits.{with_written, ring_with_part, with_part_on, with_part, with_parts}
use Rattle.nm_types.proofs.PartLemmas.{slots-some, length-parts, parts-one}
use Rattle.nm_own.specs.Edits.{own_edited, part_edit}
use Rattle.nm_own.specs.Acts.{front_slot_in}

slots-long : (len : ℕ) → 2048 < len → slots_of_length len ≡ suc (slots_of_length (len - 2048))
slots-long len long =
    let all : nat_le len 2048 ≡ false = grind (arith, nat_tests, long) in
    let times = div_ceil_times len 2048 (omega arith) in
    rw all (elim (cases_Bool (nat_le (len - 2048) 2048)) [
      | inl e ↦ (let few = leb-true (len - 2048) 2048 e in rw e (two (div_ceil len 2048) len times.0 times.1 long few))
      | inr e ↦ (let less = div_ceil_times (len - 2048) 2048 (omega arith) in rw e (one_more (div_ceil len 2048) (div_ceil (len - 2048) 2048) len times.0 times.1 less.0 less.1 long))
    ])
  where
    two : (n len : ℕ) → len ≤ n * 2048 → n * 2048 < len + 2048 → 2048 < len → len - 2048 ≤ 2048 → n ≡ suc 1
    two n len above below long few = omega arith

    one_more : (n m len : ℕ) → len ≤ n * 2048 → n * 2048 < len + 2048 → len - 2048 ≤ m * 2048 → m * 2048 < len - 2048 + 2048 → 2048 < len → n ≡ suc m
    one_more n m len above below over under long = omega arith

-- a long frame's first part, and those of the bytes behind it
pub parts-long : (bytes : List ℕ) → 2048 < length bytes → parts_of bytes ≡ take 2048 bytes ∷ parts_of (drop 2048 bytes)
parts-long bytes long =
    let less : length (drop 2048 bytes) ≡ length bytes - 2048 = length-drop 2048 bytes in
    ap (λ (n : ℕ). first_parts n bytes) (slots-long (length bytes) long)
    ∙ ap (λ (n : ℕ). take 2048 bytes ∷ first_parts (slots_of_length n) (drop 2048 bytes)) (sym less)

goes_on : (bytes : List ℕ) → not (length (parts_of bytes) == 0) ≡ true
goes_on bytes =
    let count : length (parts_of bytes) ≡ slots_of_length (length bytes) = length-parts (slots_of_length (length bytes)) bytes in
    let some = slots-some (length bytes) in
    let other : nat_eq (length (parts_of bytes)) 0 ≡ false = grind (arith, nat_tests, count, some) in
    rw other refl

-- a part more that is put, and the last one
pub part_put : (id : ℕ) (bytes rest part behind : List ℕ) (old now next : OwnState) → 2048 < length rest → part ≡ take 2048 rest → behind ≡ drop 2048 rest → next ≡ with_part id true part now
    → with_parts id (parts_of rest) now ≡ with_parts id (parts_of bytes) old → with_parts id (parts_of behind) next ≡ with_parts id (parts_of bytes) old
part_put id bytes rest part behind old now next long first is after so_far =
    let tail = drop 2048 rest in
    let more : with_parts id (parts_of rest) now ≡ with_parts id (parts_of tail) (with_part id true (take 2048 rest) now) =
    ap (λ (parts : List (List ℕ)). with_parts id parts now) (parts-long rest long) ∙ ap (λ (b : Bool). with_parts id (parts_of tail) (with_part id b (take 2048 rest) now)) (goes_on tail) in
    ap (λ (xs : List ℕ). with_parts id (parts_of xs) next) is
    ∙ (ap (with_parts id (parts_of tail)) (after ∙ ap (λ (xs : List ℕ). with_part id true xs now) first)
    ∙ (sym more ∙ so_far))

pub last_put : (id : ℕ) (bytes rest : List ℕ) (old now next : OwnState) → length rest ≤ 2048 → next ≡ with_part id false rest now
    → with_parts id (parts_of rest) now ≡ with_parts id (parts_of bytes) old → next ≡ with_parts id (parts_of bytes) old
last_put id bytes rest old now next few after so_far = after ∙ (sym (ap (λ (parts : List (List ℕ)). with_parts id parts now) (parts-one rest few)) ∙ so_far)

-- the part in the slot at the head, where there is a ring
edit_is : (id : ℕ) (more : Bool) (part : List ℕ) (s : OwnState) → own_edited id Tx (part_edit more (length part)) s ≡ with_ring Tx id (ring_with_part more part) s
edit_is id true part s = refl
edit_is id false part s = refl

pub part_there : (id : ℕ) (more : Bool) (part : List ℕ) (slot : SlotState) (s : OwnState) → front_slot_in Tx (ring_at Tx s id) ≡ Some slot
    → with_part id more part s ≡ own_edited id Tx (part_edit more (length part)) (with_written slot.buf_idx part s)
part_there id more part slot s e = by_ring (ring_at Tx s id) e ∙ sym (edit_is id more part (with_written slot.buf_idx part s))
  where
    by_ring : (o : Option OwnRing) → front_slot_in Tx o ≡ Some slot → with_part_on id more part s o ≡ with_ring Tx id (ring_with_part more part) (with_written slot.buf_idx part s)
    by_ring None e = absurd cc
    by_ring (Some r) e =
        let is : slot_in Tx r r.ring.head ≡ slot = same_Some (slot_in Tx r r.ring.head) slot e in
        ap (λ (x : SlotState). with_ring Tx id (ring_with_part more part) (with_written x.buf_idx part s)) is

pub part_nowhere : (id : ℕ) (more : Bool) (part : List ℕ) (s : OwnState) → front_slot_in Tx (ring_at Tx s id) ≡ None → with_part id more part s ≡ s
part_nowhere id more part s e = by_ring (ring_at Tx s id) e
  where
    by_ring : (o : Option OwnRing) → front_slot_in Tx o ≡ None → with_part_on id more part s o ≡ s
    by_ring None e = refl
    by_ring (Some r) e = absurd cc
