-- Numbers by the hundreds that they share.
use Rattle.std.proofs.Common.{◌≡◌, ℕ, zero, suc, ◌+◌, ◌-◌, ◌*◌, ◌/◌, ◌%◌, ◌^◌, ◌<◌, ◌≤◌, Bool, true, ◌&&◌, T, eqb, List, [], ◌∷◌, ◌++◌, length, take, drop, set, get_or, replicate, decimal, refl, ap, sym, subst, ◌∙◌, inl, inr, arith, eq-zero-or-pos, eqb→eq, length-take-le, length-set, length-drop, take-take}
use lib.Ieee.Fits.{and_l, and_r}
use lib.Seq.{take-set-lt, set_at}
use Rattle.std.specs.Simd.Lanes.{put_chunk}
use Rattle.std.proofs.lemmas.List.{take_rest}
use Rattle.std.proofs.lemmas.Simd.{take_more_put_chunk, length-put_chunk}
use Rattle.vale_strip.specs.Placed.{Placed, AreHundreds}
use Rattle.vale_strip.proofs.Places.{placed-then, placed-less}
use Rattle.std.proofs.lemmas.Fmt.{decimal_digit, length-decimal-le}
use Rattle.vale_strip.proofs.Pairs.{two_digits, two-at, decimal_two, decimal_pair}
use Rattle.vale_strip.specs.declared.numerals.TheConstants.{NUMBERS}

-- the hundreds of one digit
abbrev are_ones : ℕ → Bool
are_ones zero = true
are_ones (suc p) = (eqb (get_or NUMBERS (p * 4) 0) 44 && (eqb (get_or NUMBERS (p * 4 + 1) 0) (48 + p) && eqb (get_or NUMBERS (p * 4 + 3) 0) 4)) && are_ones p

ones : (n p : ℕ) → T (are_ones n) → p < n → (get_or NUMBERS (p * 4) 0 ≡ 44) × (get_or NUMBERS (p * 4 + 1) 0 ≡ 48 + p) × (get_or NUMBERS (p * 4 + 3) 0 ≡ 4)
ones zero p t h = absurd (omega arith)
ones (suc n) p t h =
    elim (eq-zero-or-pos (n - p)) [
      | inl z ↦
          let e : p ≡ n = omega arith in
          let a = and_l _ (are_ones n) t in
          let b = and_r _ _ a in
          rw e (eqb→eq _ _ (and_l _ _ a), eqb→eq _ _ (and_l _ _ b), eqb→eq _ _ (and_r _ _ b))
      | inr g ↦ ones n p (and_r _ (are_ones n) t) (omega arith)
    ]

-- those of two, from 10 on
abbrev are_twos : ℕ → Bool
are_twos zero = true
are_twos (suc k) =
    (eqb (get_or NUMBERS (k * 4 + 40) 0) 44
    && (eqb (get_or NUMBERS (k * 4 + 41) 0) (48 + (k + 10) / 10)
    && (eqb (get_or NUMBERS (k * 4 + 42) 0) (48 + (k + 10) % 10) && eqb (get_or NUMBERS (k * 4 + 43) 0) 5)))
    && are_twos k

twos : (n k : ℕ) → T (are_twos n) → k < n
    → (get_or NUMBERS (k * 4 + 40) 0 ≡ 44) × (get_or NUMBERS (k * 4 + 41) 0 ≡ 48 + (k + 10) / 10) × (get_or NUMBERS (k * 4 + 42) 0 ≡ 48 + (k + 10) % 10) × (get_or NUMBERS (k * 4 + 43) 0 ≡ 5)
twos zero k t h = absurd (omega arith)
twos (suc n) k t h =
    elim (eq-zero-or-pos (n - k)) [
      | inl z ↦
          let e : k ≡ n = omega arith in
          let a = and_l _ (are_twos n) t in
          let b = and_r _ _ a in
          let d = and_r _ _ b in
          rw e (eqb→eq _ _ (and_l _ _ a), eqb→eq _ _ (and_l _ _ b), eqb→eq _ _ (and_l _ _ d), eqb→eq _ _ (and_r _ _ d))
      | inr g ↦ twos n k (and_r _ (are_twos n) t) (omega arith)
    ]

three-at : (xs : List ℕ) (i : ℕ) → i + 3 ≤ length xs → take 3 (drop i xs) ≡ get_or xs i 0 ∷ get_or xs (i + 1) 0 ∷ get_or xs (i + 2) 0 ∷ []
three-at [] i h = absurd (omega arith)
three-at (x ∷ []) zero h = absurd (omega arith)
three-at (x ∷ y ∷ []) zero h = absurd (omega arith)
three-at (x ∷ y ∷ z ∷ xs) zero h = refl
three-at (x ∷ xs) (suc i) h =
    let one : suc i + 1 ≡ suc (i + 1) = omega arith in
    let two : suc i + 2 ≡ suc (i + 2) = omega arith in
    three-at xs i (omega (arith, h)) ∙ (λ j. get_or xs i 0 ∷ get_or (x ∷ xs) (sym one j) 0 ∷ get_or (x ∷ xs) (sym two j) 0 ∷ [])

-- what the table says of some hundreds
record IsHead (p : ℕ) : Type 0 where
  spelled : take (get_or NUMBERS (p * 4 + 3) 0 - 2) (drop (p * 4) NUMBERS) ≡ 44 ∷ decimal p
  long : get_or NUMBERS (p * 4 + 3) 0 ≡ 3 + length (decimal p)
  short : get_or NUMBERS (p * 4 + 3) 0 ≤ 18

one-head : (p : ℕ) → p < 10 → IsHead p
one-head p few =
    let at = ones 10 p tt few in
    let digit = decimal_digit p few in
    record {
      spelled = ap (λ (n : ℕ). take (n - 2) (drop (p * 4) NUMBERS)) at.2 ∙ two-at NUMBERS (p * 4) (omega (arith, few)) ∙ (λ i. at.0 i ∷ at.1 i ∷ []) ∙ ap (λ (t : List ℕ). 44 ∷ t) (sym digit);
      long = at.2 ∙ ap (λ (t : List ℕ). 3 + length t) (sym digit);
      short = omega (arith, at.2);
    }

two-head : (k : ℕ) → k < 90 → IsHead (k + 10)
two-head k few =
    let at = twos 90 k tt few in
    let here : (k + 10) * 4 ≡ k * 4 + 40 = omega arith in
    let one : (k + 10) * 4 + 1 ≡ k * 4 + 41 = omega arith in
    let two : (k + 10) * 4 + 2 ≡ k * 4 + 42 = omega arith in
    let three : (k + 10) * 4 + 3 ≡ k * 4 + 43 = omega arith in
    let size : get_or NUMBERS ((k + 10) * 4 + 3) 0 ≡ 5 = ap (λ (j : ℕ). get_or NUMBERS j 0) three ∙ at.3 in
    let digits = decimal_two (k + 10) (omega arith) (omega (arith, few)) in
    let comma : get_or NUMBERS ((k + 10) * 4) 0 ≡ 44 = ap (λ (j : ℕ). get_or NUMBERS j 0) here ∙ at.0 in
    let tens : get_or NUMBERS ((k + 10) * 4 + 1) 0 ≡ 48 + (k + 10) / 10 = ap (λ (j : ℕ). get_or NUMBERS j 0) one ∙ at.1 in
    let units : get_or NUMBERS ((k + 10) * 4 + 2) 0 ≡ 48 + (k + 10) % 10 = ap (λ (j : ℕ). get_or NUMBERS j 0) two ∙ at.2 in
    record {
      spelled = ap (λ (n : ℕ). take (n - 2) (drop ((k + 10) * 4) NUMBERS)) size ∙ three-at NUMBERS ((k + 10) * 4) (omega (arith, few)) ∙ (λ i. comma i ∷ tens i ∷ units i ∷ []) ∙ ap (λ (t : List ℕ). 44 ∷ t) (sym digits);
      long = size ∙ ap (λ (t : List ℕ). 3 + length t) (sym digits);
      short = omega (arith, size);
    }

is-head : (p : ℕ) → p < 100 → IsHead p
is-head p few =
    elim (eq-zero-or-pos (10 - p)) [
      | inl z ↦ let e : p - 10 + 10 ≡ p = omega (arith, z) in subst IsHead e (two-head (p - 10) (omega (arith, few, z)))
      | inr g ↦ one-head p (omega (arith, g))
    ]

-- hundreds as they stand in the table
pub near-are : (p from : ℕ) → from ≡ p * 100 → 0 < p → p < 100 → AreHundreds from (take 16 (take (600 - p * 4) (drop (p * 4) NUMBERS))) (get_or NUMBERS (p * 4 + 3) 0)
near-are p from is some few =
    let head = is-head p few in
    let size : ℕ = get_or NUMBERS (p * 4 + 3) 0 in
    let same : from / 100 ≡ p = omega (arith, is) in
    let rest : take 16 (take (600 - p * 4) (drop (p * 4) NUMBERS)) ≡ take 16 (drop (p * 4) NUMBERS) = ap (take 16) (take_rest NUMBERS (p * 4)) in
    let long : 16 ≤ length (drop (p * 4) NUMBERS) = omega (arith, few, length-drop (p * 4) NUMBERS) in
    record {
      some = omega (arith, is, some);
      fits = omega (arith, is, few);
      whole = omega (arith, is);
      spelled = ap (take (size - 2)) rest ∙ take-take (size - 2) 16 (drop (p * 4) NUMBERS) (omega (arith, head.short)) ∙ head.spelled ∙ ap (λ (n : ℕ). 44 ∷ decimal n) (sym same);
      long = head.long ∙ ap (λ (n : ℕ). 3 + length (decimal n)) (sym same);
      short = head.short;
      len = ap length rest ∙ length-take-le 16 (drop (p * 4) NUMBERS) long;
    }

-- and as they are spelled behind a comma
pub far-are : (p from end : ℕ) (text : List ℕ) → from ≡ p * 100 → 0 < p → p * 100 < 2 ^ 32 → Placed (replicate 24 44) text 1 (decimal p) end → AreHundreds from (take 16 text) (end + 2)
far-are p from end text is some fits placed =
    let same : from / 100 ≡ p = omega (arith, is) in
    let few : length (decimal p) ≤ 8 = length-decimal-le 8 p (omega arith) (omega (arith, fits)) (omega (arith, fits)) in
    let there : end + 2 - 2 ≡ end = omega arith in
    let inside : end ≤ 16 = omega (arith, placed.moved, few) in
    record {
      some = omega (arith, is, some);
      fits = omega (arith, is, fits);
      whole = omega (arith, is);
      spelled = ap (λ (n : ℕ). take n (take 16 text)) there ∙ take-take end 16 text inside ∙ placed.bytes ∙ ap (λ (n : ℕ). 44 ∷ decimal n) (sym same);
      long = omega (arith, placed.moved) ∙ ap (λ (n : ℕ). 3 + length (decimal n)) (sym same);
      short = omega (arith, inside);
      len = length-take-le 16 text (omega (arith, placed.len));
    }

-- the hundreds behind a comma
pub placed-heads : (buf text : List ℕ) (at from size : ℕ) → AreHundreds from text size → at + 16 ≤ length buf → Placed buf (put_chunk at buf text) at (44 ∷ decimal (from / 100)) (at + (size - 2))
placed-heads buf text at from size are room =
    let whole : Placed buf (put_chunk at buf text) at text (at + 16) = record {
      bytes = take_more_put_chunk at buf text (at + 16) (omega (arith, are.len)) (omega (arith, are.len, room));
      moved = omega (arith, are.len);
      len = length-put_chunk at buf text;
    } in
    subst (λ (t : List ℕ). Placed buf (put_chunk at buf text) at t (at + (size - 2))) are.spelled (placed-less (size - 2) (omega (arith, room)) (omega (arith, are.len, are.short)) whole)

-- another first byte
pub placed-over : {a b xs : List ℕ} {at end x : ℕ} (y : ℕ) → at ≤ length a → Placed a b at (x ∷ xs) end → Placed a (set b at y) at (y ∷ xs) end
placed-over {a} {b} {xs} {at} {end} {x} y within p = record {
  bytes = take-set-lt end b at y (omega (arith, p.moved)) ∙ ap (λ (t : List ℕ). set t at y) p.bytes ∙ set_at (take at a) x xs y at (length-take-le at a within);
  moved = p.moved;
  len = length-set b at y ∙ p.len;
}

-- the hundreds, and what is left behind them
pub placed-number : {a b c : List ℕ} {at : ℕ} (mark from low size : ℕ) (text : List ℕ) → AreHundreds from text size → low < 100
    → Placed a b at (mark ∷ decimal (from / 100)) (at + (size - 2)) → Placed b c (at + size - 2) (two_digits low) (at + size - 2 + 2) → Placed a c at (mark ∷ decimal (from + low)) (at + size)
placed-number {a} {b} {c} {at} mark from low size text are few p q =
    let n : ℕ = from + low in
    let top : from / 100 ≡ n / 100 = omega (arith, are.whole, few) in
    let rest : low ≡ n % 100 = omega (arith, are.whole, few) in
    let whole : decimal (from / 100) ++ two_digits low ≡ decimal n =
    (λ i. decimal (top i) ++ two_digits (rest i)) ∙ sym (decimal_pair n (omega (arith, are.some)) (omega (arith, are.fits, few))) in
    let here : at + (size - 2) ≡ at + size - 2 = omega (arith, are.long) in
    let end : at + size - 2 + 2 ≡ at + size = omega (arith, are.long) in
    subst (λ (e : ℕ). Placed a c at (mark ∷ decimal n) e) end
    (subst (λ (t : List ℕ). Placed a c at (mark ∷ t) (at + size - 2 + 2)) whole (placed-then (subst (λ (e : ℕ). Placed a b at (mark ∷ decimal (from / 100)) e) here p) q))

-- a number below 100 as it stands in the table
pub placed-little : (buf : List ℕ) (at n : ℕ) → n < 100 → at + 4 ≤ length buf
    → Placed buf (put_chunk at buf (take 4 (take (600 - n * 4) (drop (n * 4) NUMBERS)))) at (44 ∷ decimal n) (at + (get_or NUMBERS (n * 4 + 3) 0 - 2))
placed-little buf at n few room =
    let head = is-head n few in
    let size : ℕ = get_or NUMBERS (n * 4 + 3) 0 in
    let digits : length (decimal n) ≤ 2 = length-decimal-le 2 n (omega arith) (omega (arith, few)) (omega (arith, few)) in
    let text : List ℕ = take 4 (take (600 - n * 4) (drop (n * 4) NUMBERS)) in
    let rest : text ≡ take 4 (drop (n * 4) NUMBERS) = ap (take 4) (take_rest NUMBERS (n * 4)) in
    let long : length text ≡ 4 = ap length rest ∙ length-take-le 4 (drop (n * 4) NUMBERS) (omega (arith, few, length-drop (n * 4) NUMBERS)) in
    let spelled : take (size - 2) text ≡ 44 ∷ decimal n =
    ap (take (size - 2)) rest ∙ take-take (size - 2) 4 (drop (n * 4) NUMBERS) (omega (arith, head.long, digits)) ∙ head.spelled in
    let whole : Placed buf (put_chunk at buf text) at text (at + 4) = record {
      bytes = take_more_put_chunk at buf text (at + 4) (omega (arith, long)) (omega (arith, long, room));
      moved = omega (arith, long);
      len = length-put_chunk at buf text;
    } in
    subst (λ (t : List ℕ). Placed buf (put_chunk at buf text) at t (at + (size - 2))) spelled
    (placed-less (size - 2) (omega (arith, room)) (omega (arith, long, head.long, digits)) whole)
