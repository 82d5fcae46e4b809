-- Words of bits: one bit changes and the others stay; a word that is 0 has none; bits beside places.
use Rattle.std.proofs.Common.{ℕ, zero, suc, ◌≡◌, ◌≢◌, ◌+◌, ◌-◌, ◌*◌, ◌/◌, ◌%◌, ◌^◌, ◌<◌, ◌≤◌, List, [], ◌∷◌, length, take, map, slice_set, get_or, Option, Some, None, nat_eq, nat_lt, inl, inr, refl, sym, ◌∙◌, ap, subst, arith, w64}
use Rattle.std.specs.Prelude.{min}
use Rattle.std.specs.List.{range_with_len}
use Rattle.std.specs.Int.{bit_at, trailing_zeros}
use Rattle.std.proofs.lemmas.Bool.{cases_Bool}
use Rattle.std.proofs.lemmas.Bool.Decides.{nat_tests}
use Rattle.std.proofs.Math.ListN.{get_or-eq_default}
use Rattle.std.proofs.Math.Nat.{min-le_left, le-min}
use Rattle.std.proofs.lemmas.List.{get_or-set_same, get_or-set_other}
use Rattle.std.proofs.lemmas.List.FromFn.{get_or-map-range_with_len, length-map-range_with_len}
use Rattle.std.proofs.lemmas.Nat.Bits.{bit_at-zero, bit_at_ones, bit_at_ones_above, bit_at-trailing_zeros}
use Rattle.nm_region.specs.Buffers.{Buffer}
use Rattle.nm_pool.specs.Bits.{bit_of, mark, AreBits}
use Rattle.nm_pool.specs.Kept.{buffers_in}
use Rattle.std.proofs.lemmas.List.{get_or_read_under}

-- ---- one word is changed
pub changed-same : (words : List ℕ) (k v : ℕ) → k < length words * 64 → bit_of (slice_set words (k / 64) v) k ≡ bit_at v (k % 64)
changed-same words k v h =
    let within : k / 64 < length words = omega (arith, h) in
    ap (λ (w : ℕ). bit_at w (k % 64)) (get_or-set_same words (k / 64) v 0 within)

-- the word of a bit, as it is read
pub word_read : (words : List ℕ) (k w : ℕ) → k < length words * 64 → w ≡ get_or words (k / 64) w → w ≡ get_or words (k / 64) 0
word_read words k w below is = get_or_read_under words (k / 64) (length words) w 0 is (omega (arith, below)) refl

pub changed-other : (words : List ℕ) (k v : ℕ) → k < length words * 64 → ((i : ℕ) → i < 64 → i ≢ k % 64 → bit_at v i ≡ bit_at (get_or words (k / 64) 0) i)
    → (j : ℕ) → j ≢ k → bit_of (slice_set words (k / 64) v) j ≡ bit_of words j
changed-other words k v h others j apart =
    let within : k / 64 < length words = omega (arith, h) in
    elim (cases_Bool (nat_eq (j / 64) (k / 64))) [
      | inl e ↦ (let same : k / 64 ≡ j / 64 = grind (arith, nat_tests) in
          let low : j % 64 < 64 = omega arith in
          let differ : j % 64 ≢ k % 64 = λ r. apart (omega (arith, same, r)) in
          subst (λ (w : ℕ). bit_at (get_or (slice_set words (k / 64) v) w 0) (j % 64) ≡ bit_at (get_or words w 0) (j % 64)) same
          (ap (λ (w : ℕ). bit_at w (j % 64)) (get_or-set_same words (k / 64) v 0 within) ∙ others (j % 64) low differ))
      | inr e ↦ (let other : j / 64 ≢ k / 64 = grind (arith, nat_tests) in
          ap (λ (w : ℕ). bit_at w (j % 64)) (get_or-set_other words (k / 64) (j / 64) v 0 other))
    ]

-- ---- the words are searched
pub positive : (n : ℕ) → (n ≡ 0 → ⊥) → 0 < n
positive zero h = absurd (h refl)
positive (suc n) h = omega arith

pub none-in : (words : List ℕ) (at : ℕ) → get_or words at 0 ≡ 0 → ((k : ℕ) → k < at * 64 → bit_of words k ≡ 0) → (k : ℕ) → k < (at + 1) * 64 → bit_of words k ≡ 0
none-in words at none before k h = elim (cases_Bool (nat_eq (k / 64) at)) [
  | inl e ↦ (let here : at ≡ k / 64 = grind (arith, nat_tests) in
      ap (λ (w : ℕ). bit_at w (k % 64)) (subst (λ (w : ℕ). get_or words w 0 ≡ 0) here none) ∙ bit_at-zero (k % 64))
  | inr e ↦ (let other : k / 64 ≢ at = grind (arith, nat_tests) in before k (below k at other h))
]
  where
    below : (k at : ℕ) → k / 64 ≢ at → k < (at + 1) * 64 → k < at * 64
    below k at other h = omega (arith, other, h)

pub none-behind : (words : List ℕ) (at : ℕ) → length words ≤ at → ((k : ℕ) → k < at * 64 → bit_of words k ≡ 0) → (k : ℕ) → bit_of words k ≡ 0
none-behind words at end before k = elim (cases_Bool (nat_lt k (at * 64))) [
  | inl e ↦ (let low : k < at * 64 = grind (arith, nat_tests) in before k low)
  | inr e ↦ (let high : at * 64 ≤ k = grind (arith, nat_tests) in
      let past : length words ≤ k / 64 = omega (arith, end, high) in
      ap (λ (w : ℕ). bit_at w (k % 64)) (get_or-eq_default words 0 past) ∙ bit_at-zero (k % 64))
]

-- the lowest bit of the first word that has one
pub word_of : (at i : ℕ) → i < 64 → (at * 64 + i) / 64 ≡ at
word_of at i h = omega (arith, h)

pub place_of : (at i : ℕ) → i < 64 → (at * 64 + i) % 64 ≡ i
place_of at i h = omega (arith, h)

pub bit-found : (words : List ℕ) (at i : ℕ) → i < 64 → bit_of words (at * 64 + i) ≡ bit_at (get_or words at 0) i
bit-found words at i h = ap (λ (w : ℕ). bit_at (get_or words w 0) ((at * 64 + i) % 64)) (word_of at i h) ∙ ap (bit_at (get_or words at 0)) (place_of at i h)

pub none-before : (words : List ℕ) (at i : ℕ) → i < 64 → ((j : ℕ) → j < i → bit_at (get_or words at 0) j ≡ 0) → ((k : ℕ) → k < at * 64 → bit_of words k ≡ 0)
    → (k : ℕ) → k < at * 64 + i → bit_of words k ≡ 0
none-before words at i h low before k below = elim (cases_Bool (nat_lt k (at * 64))) [
  | inl e ↦ (let far : k < at * 64 = grind (arith, nat_tests) in before k far)
  | inr e ↦ (let near : at * 64 ≤ k = grind (arith, nat_tests) in
      let here : k / 64 ≡ at = omega (arith, near, below, h) in
      let there : k % 64 < i = omega (arith, near, below, h, here) in
      ap (λ (w : ℕ). bit_at (get_or words w 0) (k % 64)) here ∙ low (k % 64) there)
]

-- the lowest bit of a word that has one is set, and none stands before it in the words
pub record IsLowest (words : List ℕ) (at w : ℕ) : Type 0 where
  pub set : bit_of words (at * 64 + trailing_zeros w64 w) ≡ 1
  pub before : ((k : ℕ) → k < at * 64 → bit_of words k ≡ 0) → (k : ℕ) → k < at * 64 + trailing_zeros w64 w → bit_of words k ≡ 0

pub lowest : (words : List ℕ) (at w : ℕ) → w ≡ get_or words at w → at < length words → (w ≡ 0 → ⊥) → get_or words at 0 < 2 ^ 64 → IsLowest words at w
lowest words at w read within some few =
    let is : w ≡ get_or words at 0 = get_or_read_under words at (length words) w 0 read within refl in
    let low = bit_at-trailing_zeros w64 w (positive w some) (subst (λ (x : ℕ). x < 2 ^ 64) (sym is) few) in
    record {
      set = bit-found words at (trailing_zeros w64 w) low.0 ∙ (ap (λ (x : ℕ). bit_at x (trailing_zeros w64 w)) (sym is) ∙ low.1);
      before = none-before words at (trailing_zeros w64 w) low.0 (λ j h. ap (λ (x : ℕ). bit_at x j) (sym is) ∙ low.2 j h);
    }

-- ---- full words
pub full-set : (count most : ℕ) (words : List ℕ) → words ≡ map (λ (w : ℕ). 2 ^ min (count - w * 64) 64 - 1) (range_with_len 0 most) → count ≤ most * 64 → (k : ℕ) → k < count → bit_of words k ≡ 1
full-set count most words is enough k h =
    let w : ℕ = k / 64 in
    let within : w < most = omega (arith, h, enough) in
    let word : get_or words w 0 ≡ 2 ^ min (count - w * 64) 64 - 1 = ap (λ (ws : List ℕ). get_or ws w 0) is ∙ get_or-map-range_with_len (λ (x : ℕ). 2 ^ min (count - x * 64) 64 - 1) 0 most w w 0 within (omega arith) in
    let one : suc (k % 64) ≤ count - w * 64 = omega (arith, h) in
    let low : k % 64 < min (count - w * 64) 64 = (let both : suc (k % 64) ≤ min (count - w * 64) 64 = le-min one (omega arith) in omega (arith, both)) in
    ap (λ (x : ℕ). bit_at x (k % 64)) word ∙ bit_at_ones (min (count - w * 64) 64) (k % 64) low

pub full-clear : (count most : ℕ) (words : List ℕ) → words ≡ map (λ (w : ℕ). 2 ^ min (count - w * 64) 64 - 1) (range_with_len 0 most) → (k : ℕ) → count ≤ k → bit_of words k ≡ 0
full-clear count most words is k h =
    let w : ℕ = k / 64 in
    elim (cases_Bool (nat_lt w most)) [
      | inl e ↦ (let within : w < most = grind (arith, nat_tests) in
          let word : get_or words w 0 ≡ 2 ^ min (count - w * 64) 64 - 1 = ap (λ (ws : List ℕ). get_or ws w 0) is ∙ get_or-map-range_with_len (λ (x : ℕ). 2 ^ min (count - x * 64) 64 - 1) 0 most w w 0 within (omega arith) in
          let few = min-le_left (count - w * 64) 64 in
          let high : min (count - w * 64) 64 ≤ k % 64 = omega (arith, few, h) in
          ap (λ (x : ℕ). bit_at x (k % 64)) word ∙ bit_at_ones_above (min (count - w * 64) 64) (k % 64) high)
      | inr e ↦ (let past : most ≤ w = grind (arith, nat_tests) in
          let count = ap length is ∙ length-map-range_with_len (λ (x : ℕ). 2 ^ min (count - x * 64) 64 - 1) 0 most in
          let beyond : length words ≤ w = omega (arith, count, past) in
          ap (λ (x : ℕ). bit_at x (k % 64)) (get_or-eq_default words 0 beyond) ∙ bit_at-zero (k % 64))
    ]

-- ---- bits beside places
mark-all : (bufs : List Buffer) (k : ℕ) → k < length bufs → mark (get_or (map (λ (b : Buffer). Some b) bufs) k None) ≡ 1
mark-all [] k h = absurd (let bad : k < 0 = h in omega arith)
mark-all (b ∷ bufs) zero h = refl
mark-all (b ∷ bufs) (suc k) h = mark-all bufs k (omega arith)

mark-none : (bufs : List Buffer) (k : ℕ) → length bufs ≤ k → mark (get_or (map (λ (b : Buffer). Some b) bufs) k None) ≡ 0
mark-none [] k h = refl
mark-none (b ∷ bufs) zero h = absurd (omega arith)
mark-none (b ∷ bufs) (suc k) h = mark-none bufs k (omega arith)

pub bits-all : (words : List ℕ) (bufs : List Buffer) → ((k : ℕ) → k < length bufs → bit_of words k ≡ 1) → ((k : ℕ) → length bufs ≤ k → bit_of words k ≡ 0) → AreBits words (map (λ (b : Buffer). Some b) bufs)
bits-all words bufs set clear k = elim (cases_Bool (nat_lt k (length bufs))) [
  | inl e ↦ (let low : k < length bufs = grind (arith, nat_tests) in set k low ∙ sym (mark-all bufs k low))
  | inr e ↦ (let high : length bufs ≤ k = grind (arith, nat_tests) in clear k high ∙ sym (mark-none bufs k high))
]

-- one place changes with its bit
pub bits-changed : (old new : List ℕ) (places : List (Option Buffer)) (at : ℕ) (x : Option Buffer) → at < length places → bit_of new at ≡ mark x
    → ((j : ℕ) → j ≢ at → bit_of new j ≡ bit_of old j) → AreBits old places → AreBits new (slice_set places at x)
bits-changed old new places at x h here others bits k = elim (cases_Bool (nat_eq k at)) [
  | inl e ↦ (let same : at ≡ k = grind (arith, nat_tests) in
      subst (λ (j : ℕ). bit_of new j ≡ mark (get_or (slice_set places at x) j None)) same (here ∙ sym (ap mark (get_or-set_same places at x None h))))
  | inr e ↦ (let other : k ≢ at = grind (arith, nat_tests) in
      others k other ∙ (bits k ∙ sym (ap mark (get_or-set_other places at k x None other))))
]

unmarked : (o : Option Buffer) → mark o ≡ 0 → o ≡ None
unmarked None e = refl
unmarked (Some b) e = absurd cc

pub bit-within : (words : List ℕ) (places : List (Option Buffer)) (k : ℕ) → AreBits words places → bit_of words k ≡ 1 → k < length places
bit-within words places k bits one = elim (cases_Bool (nat_lt k (length places))) [
  | inl e ↦ (grind (arith, nat_tests))
  | inr e ↦ (let past : length places ≤ k = grind (arith, nat_tests) in
      absurd (let bad : 1 ≡ 0 = sym one ∙ (bits k ∙ ap mark (get_or-eq_default places None past)) in cc))
]

-- places without a bit have no buffer
pub none-kept : (words : List ℕ) (places : List (Option Buffer)) (n : ℕ) → AreBits words places → ((j : ℕ) → j < n → bit_of words j ≡ 0) → buffers_in (take n places) ≡ []
none-kept words places n bits none = gone places n (λ j h. unmarked (get_or places j None) (sym (bits j) ∙ none j h))
  where
    gone : (places : List (Option Buffer)) (n : ℕ) → ((j : ℕ) → j < n → get_or places j None ≡ None) → buffers_in (take n places) ≡ []
    gone places zero each = refl
    gone [] (suc n) each = refl
    gone (None ∷ places) (suc n) each = gone places n (λ j h. each (suc j) (omega arith))
    gone (Some b ∷ places) (suc n) each = absurd (let bad : Some b ≡ None = each 0 (omega arith) in cc)
