-- Sixteen bytes as digits.
use Rattle.std.proofs.Common.{◌≡◌, ℕ, ◌+◌, ◌/◌, ◌%◌, zero, suc, ◌-◌, ◌*◌, ◌<◌, ◌≤◌, Bool, true, ◌&&◌, T, eqb, eqb→eq, eq-zero-or-pos, inl, inr, get_or, w8, List, [], ◌∷◌, ◌++◌, length, map, take, slice_index_or, refl, ap, subst, ◌∙◌, arith, append_assoc, length-append}
use Rattle.std.specs.List.{flat_map}
use lib.Ieee.Fits.{and_l, and_r}
use Rattle.std.specs.Simd.Lanes.{Each1, put_chunk}
use Rattle.std.proofs.lemmas.Simd.{take_more_put_chunk, length-put_chunk, swz_l, SwzOk, SwzOk-from_below, get_or-swz_l_below}
use Rattle.vale_strip.specs.declared.hex.TheConstants.{HEX}
use Rattle.vale_strip.specs.Placed.{Placed}
use Rattle.vale_entry.specs.Transcript.{hex_digit, hex_byte}

abbrev are_digits : ℕ → Bool
are_digits zero = true
are_digits (suc n) = eqb (get_or HEX n 0) (hex_digit n) && are_digits n

below : (k n : ℕ) → T (are_digits k) → n < k → get_or HEX n 0 ≡ hex_digit n
below zero n t h = absurd (omega arith)
below (suc k) n t h =
    elim (eq-zero-or-pos (k - n)) [
      | inl z ↦ let e : n ≡ k = omega arith in rw e (eqb→eq _ _ (and_l _ (are_digits k) t))
      | inr g ↦ below k n (and_r _ (are_digits k) t) (omega arith)
    ]

pub positions-fit : (xs : List ℕ) → length xs ≡ 16 → Each1 (λ n. n < 16) xs → SwzOk w8 16 16 0 xs
positions-fit xs long low = SwzOk-from_below w8 16 1 16 0 xs refl (omega arith) low

looked-up : (xs : List ℕ) (i : ℕ) → i + length xs ≤ 16 → Each1 (λ n. n < 16) xs → swz_l w8 16 HEX i xs ≡ map hex_digit xs
looked-up [] i within low = refl
looked-up (x ∷ xs) i within low =
    let place : 16 * ((i + 0) / 16) + x ≡ x = omega arith in
    let first : get_or (swz_l w8 16 HEX i (x ∷ xs)) 0 0 ≡ hex_digit x =
    get_or-swz_l_below w8 16 HEX i (x ∷ xs) 0 (omega arith) low.0 ∙ ap (λ n. get_or HEX n 0) place ∙ below 16 x tt low.0 in
    λ k. first k ∷ looked-up xs (suc i) (omega arith) low.1 k

pub digits-are : (xs : List ℕ) → length xs ≡ 16 → Each1 (λ n. n < 16) xs → swz_l w8 16 HEX 0 xs ≡ map hex_digit xs
digits-are xs long low = looked-up xs 0 (omega arith) low

abbrev at : List ℕ → List ℕ → ℕ → ℕ
at hs ls i = slice_index_or (hs ++ ls) i 0

abbrev pub front_of : List ℕ → List ℕ → List ℕ
front_of hs ls = at hs ls 0 ∷ at hs ls 16 ∷ at hs ls 1 ∷ at hs ls 17 ∷ at hs ls 2 ∷ at hs ls 18 ∷ at hs ls 3 ∷ at hs ls 19 ∷ at hs ls 4 ∷ at hs ls 20 ∷ at hs ls 5 ∷ at hs ls 21 ∷ at hs ls 6 ∷ at hs ls 22 ∷ at hs ls 7 ∷ at hs ls 23 ∷ []

abbrev pub back_of : List ℕ → List ℕ → List ℕ
back_of hs ls = at hs ls 8 ∷ at hs ls 24 ∷ at hs ls 9 ∷ at hs ls 25 ∷ at hs ls 10 ∷ at hs ls 26 ∷ at hs ls 11 ∷ at hs ls 27 ∷ at hs ls 12 ∷ at hs ls 28 ∷ at hs ls 13 ∷ at hs ls 29 ∷ at hs ls 14 ∷ at hs ls 30 ∷ at hs ls 15 ∷ at hs ls 31 ∷ []

spelled : (xs : List ℕ) → length xs ≡ 16 → front_of (map hex_digit (map (λ x. x / 16) xs)) (map hex_digit (map (λ x. x % 16) xs)) ++ back_of (map hex_digit (map (λ x. x / 16) xs)) (map hex_digit (map (λ x. x % 16) xs)) ≡ flat_map hex_byte xs
spelled (x0 ∷ x1 ∷ x2 ∷ x3 ∷ x4 ∷ x5 ∷ x6 ∷ x7 ∷ x8 ∷ x9 ∷ x10 ∷ x11 ∷ x12 ∷ x13 ∷ x14 ∷ x15 ∷ []) e = refl
spelled xs e = absurd (omega arith)

pub placed-twice : (buf front back : List ℕ) (here : ℕ) → length front ≡ 16 → length back ≡ 16 → here + 32 ≤ length buf → Placed buf (put_chunk (here + 16) (put_chunk here buf front) back) here (front ++ back) (here + 32)
placed-twice buf front back here f b room =
    let first : take (here + 16) (put_chunk here buf front) ≡ take here buf ++ front = take_more_put_chunk here buf front (here + 16) (omega arith) (omega arith) in
    record {
      bytes = take_more_put_chunk (here + 16) (put_chunk here buf front) back (here + 32) (omega arith) (omega (arith, length-put_chunk here buf front)) ∙ ap (λ t. t ++ back) first ∙ append_assoc (take here buf) front back;
      moved = omega (arith, length-append front back);
      len = length-put_chunk (here + 16) (put_chunk here buf front) back ∙ length-put_chunk here buf front;
    }

-- the digits of sixteen bytes, in two halves
pub placed-block : (buf xs hs ls : List ℕ) (here : ℕ) → length xs ≡ 16 → hs ≡ map hex_digit (map (λ x. x / 16) xs) → ls ≡ map hex_digit (map (λ x. x % 16) xs) → here + 32 ≤ length buf
    → Placed buf (put_chunk (here + 16) (put_chunk here buf (front_of hs ls)) (back_of hs ls)) here (flat_map hex_byte xs) (here + 32)
placed-block buf xs hs ls here long high low room =
    subst (λ (text : List ℕ). Placed buf (put_chunk (here + 16) (put_chunk here buf (front_of hs ls)) (back_of hs ls)) here text (here + 32))
    ((λ i. front_of (high i) (low i) ++ back_of (high i) (low i)) ∙ spelled xs long)
    (placed-twice buf (front_of hs ls) (back_of hs ls) here refl refl room)
