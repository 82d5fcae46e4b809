-- Numbers spelled two digits at a time.
use Rattle.std.proofs.Common.{◌≡◌, ℕ, zero, suc, ◌+◌, ◌-◌, ◌*◌, ◌/◌, ◌%◌, ◌^◌, ◌<◌, ◌≤◌, Bool, true, ◌&&◌, T, eqb, List, [], ◌∷◌, ◌++◌, length, take, drop, set, get_or, decimal, refl, ap, sym, subst, ◌∙◌, inl, inr, arith, eq-zero-or-pos, eqb→eq, append_assoc, length-set}
use lib.Ieee.Fits.{and_l, and_r}
use Rattle.std.specs.Simd.Lanes.{put_chunk}
use Rattle.std.proofs.lemmas.Grind.{take-set_at}
use Rattle.std.proofs.lemmas.List.{take_rest}
use Rattle.std.proofs.lemmas.Simd.{take_more_put_chunk, length-put_chunk}
use Rattle.std.proofs.lemmas.Fmt.{decimal_digit, decimal_step}
use Rattle.vale_strip.specs.Placed.{Placed}
use Rattle.vale_strip.proofs.Places.{placed-then}
use Rattle.vale_strip.specs.declared.numerals.TheConstants.{NUMBERS}

abbrev pub two_digits : ℕ → List ℕ
two_digits n = (48 + n / 10) ∷ (48 + n % 10) ∷ []

abbrev are_pairs : ℕ → Bool
are_pairs zero = true
are_pairs (suc p) = (eqb (get_or NUMBERS (p * 2 + 400) 0) (48 + p / 10) && eqb (get_or NUMBERS (p * 2 + 401) 0) (48 + p % 10)) && are_pairs p

below : (n p : ℕ) → T (are_pairs n) → p < n → (get_or NUMBERS (p * 2 + 400) 0 ≡ 48 + p / 10) × (get_or NUMBERS (p * 2 + 401) 0 ≡ 48 + p % 10)
below zero p t h = absurd (omega arith)
below (suc n) p t h =
    elim (eq-zero-or-pos (n - p)) [
      | inl z ↦ let e : p ≡ n = omega arith in let a = and_l _ (are_pairs n) t in rw e (eqb→eq _ _ (and_l _ _ a), eqb→eq _ _ (and_r _ _ a))
      | inr g ↦ below n p (and_r _ (are_pairs n) t) (omega arith)
    ]

-- the two digits of the table
pub pairs_at : (p : ℕ) → p < 100 → (get_or NUMBERS (p * 2 + 400) 0 ≡ 48 + p / 10) × (get_or NUMBERS (p * 2 + 401) 0 ≡ 48 + p % 10)
pairs_at p h = below 100 p tt h

pub decimal_two : (n : ℕ) → 10 ≤ n → n < 100 → decimal n ≡ two_digits n
decimal_two n lo hi = rw (decimal_step n lo (omega arith), decimal_digit (n / 10) (omega arith))

pub decimal_pair : (n : ℕ) → 100 ≤ n → n < 2 ^ 64 → decimal n ≡ decimal (n / 100) ++ two_digits (n % 100)
decimal_pair n lo hi =
    let a : n / 10 / 10 ≡ n / 100 = omega arith in
    let b : n / 10 % 10 ≡ n % 100 / 10 = omega arith in
    let c : n % 10 ≡ n % 100 % 10 = omega arith in
    rw (decimal_step n (omega arith) hi, decimal_step (n / 10) (omega arith) (omega arith), append_assoc, a, b, ← c)

pub two-at : (xs : List ℕ) (i : ℕ) → i + 2 ≤ length xs → take 2 (drop i xs) ≡ get_or xs i 0 ∷ get_or xs (i + 1) 0 ∷ []
two-at [] i h = absurd (omega arith)
two-at (x ∷ []) zero h = absurd (omega arith)
two-at (x ∷ y ∷ xs) zero h = refl
two-at (x ∷ xs) (suc i) h =
    let next : suc i + 1 ≡ suc (i + 1) = omega arith in
    two-at xs i (omega (arith, h)) ∙ ap (λ (k : ℕ). get_or xs i 0 ∷ get_or (x ∷ xs) k 0 ∷ []) (sym next)

-- the two digits as they stand in the table
pub pair_of : (p : ℕ) → p < 100 → take 2 (take (600 - (p * 2 + 400)) (drop (p * 2 + 400) NUMBERS)) ≡ two_digits p
pair_of p h =
    let at = pairs_at p h in
    let next : p * 2 + 400 + 1 ≡ p * 2 + 401 = omega arith in
    let units : get_or NUMBERS (p * 2 + 400 + 1) 0 ≡ 48 + p % 10 = ap (λ (j : ℕ). get_or NUMBERS j 0) next ∙ at.1 in
    ap (take 2) (take_rest NUMBERS (p * 2 + 400)) ∙ two-at NUMBERS (p * 2 + 400) (omega arith) ∙ (λ i. at.0 i ∷ units i ∷ [])

-- two digits at once
pub placed-two : (buf xs : List ℕ) (at x y : ℕ) → xs ≡ x ∷ y ∷ [] → at + 2 ≤ length buf → Placed buf (put_chunk at buf xs) at (x ∷ y ∷ []) (at + 2)
placed-two buf xs at x y is h = rw is (record {
  bytes = take_more_put_chunk at buf (x ∷ y ∷ []) (at + 2) (omega arith) (omega arith);
  moved = omega arith;
  len = length-put_chunk at buf (x ∷ y ∷ []);
})

-- one digit
pub placed-one : (buf : List ℕ) (at x : ℕ) → at < length buf → Placed buf (set buf at x) at (x ∷ []) (at + 1)
placed-one buf at x h = record {
  bytes = take-set_at buf at (at + 1) x refl h;
  moved = omega arith;
  len = length-set buf at x;
}

-- the last two digits behind those before
pub placed-pair : {a b c : List ℕ} {at end : ℕ} (n : ℕ) → 100 ≤ n → n < 2 ^ 64 → Placed a b at (decimal (n / 100)) end → Placed b c end (two_digits (n % 100)) (end + 2) → Placed a c at (decimal n) (end + 2)
placed-pair {a} {b} {c} {at} {end} n lo hi p q =
    subst (λ (t : List ℕ). Placed a c at t (end + 2)) (sym (decimal_pair n lo hi)) (placed-then p q)

-- the last four digits behind those before
pub placed-four : {a b c d : List ℕ} {at end : ℕ} (n : ℕ) → 10000 ≤ n → n < 2 ^ 64 → Placed a b at (decimal (n / 10000)) end
    → Placed b c end (two_digits (n % 10000 / 100)) (end + 2) → Placed c d (end + 2) (two_digits (n % 10000 % 100)) (end + 2 + 2) → Placed a d at (decimal n) (end + 2 + 2)
placed-four {a} {b} {c} {d} {at} {end} n lo hi p q r =
    let high : n / 10000 ≡ n / 100 / 100 = omega arith in
    let middle : n % 10000 / 100 ≡ n / 100 % 100 = omega arith in
    let low : n % 10000 % 100 ≡ n % 100 = omega arith in
    placed-pair n (omega (arith, lo)) hi
    (placed-pair (n / 100) (omega (arith, lo)) (omega (arith, hi)) (subst (λ (m : ℕ). Placed a b at (decimal m) end) high p) (subst (λ (m : ℕ). Placed b c end (two_digits m) (end + 2)) middle q))
    (subst (λ (m : ℕ). Placed c d (end + 2) (two_digits m) (end + 2 + 2)) low r)

pub placed-first-one : (buf : List ℕ) (at n : ℕ) → n < 10 → at < length buf → Placed buf (set buf at (48 + n)) at (decimal n) (at + 1)
placed-first-one buf at n small room = rw (decimal_digit n small) (placed-one buf at (48 + n) room)

pub placed-first-two : {a b : List ℕ} {at : ℕ} (n : ℕ) → 10 ≤ n → n < 100 → Placed a b at (two_digits n) (at + 2) → Placed a b at (decimal n) (at + 2)
placed-first-two n lo hi p = rw (decimal_two n lo hi) p
