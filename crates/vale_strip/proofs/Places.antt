-- Writes at places of one buffer, one after another.
use Rattle.std.proofs.Common.{◌≡◌, ℕ, zero, suc, ◌+◌, ◌-◌, ◌*◌, ◌/◌, ◌%◌, ◌≤◌, List, [], ◌∷◌, ◌++◌, length, take, drop, refl, ap, sym, subst, ◌∙◌, arith, append_assoc, length-append, length-take-le, length-drop, take-add, take-take, take_at, drop_at, take_all}
use Rattle.std.specs.List.{flat_map}
use Rattle.std.specs.Simd.Lanes.{put_chunk}
use Rattle.std.proofs.Math.Seq.{take-append_seam}
use Rattle.std.proofs.lemmas.Simd.{take_more_put_chunk, length-put_chunk}
use Rattle.std.proofs.lemmas.List.{drop-drop}
use Rattle.std.proofs.lemmas.Grind.{flat_map-append}
use Rattle.vale_strip.specs.Placed.{Placed}
use Rattle.vale_entry.specs.Transcript.{hex_digit, hex_byte}

-- a second write begins where the first ended
pub placed-then : {a b c xs ys : List ℕ} {i j k : ℕ} → Placed a b i xs j → Placed b c j ys k → Placed a c i (xs ++ ys) k
placed-then {a} {b} {c} {xs} {ys} {i} p q = record {
  bytes = q.bytes ∙ ap (λ l. l ++ ys) p.bytes ∙ append_assoc (take i a) xs ys;
  moved = omega (arith, p.moved, q.moved, length-append xs ys);
  len = q.len ∙ p.len;
}

-- only the first n bytes of a write are kept
pub placed-less : {a b xs : List ℕ} {i j : ℕ} (n : ℕ) → i ≤ length a → n ≤ length xs → Placed a b i xs j → Placed a b i (take n xs) (i + n)
placed-less {a} {b} {xs} {i} {j} n within few p =
    let front = length-take-le i a within in
    record {
      bytes = sym (take-take (i + n) j b (omega (arith, p.moved))) ∙ ap (take (i + n)) p.bytes ∙ take-add i n (take i a ++ xs)
          ∙ (λ k. take_at (take i a) xs i front k ++ take n (drop_at (take i a) xs i front k));
      moved = omega (arith, length-take-le n xs few);
      len = p.len;
    }

hex-length : (xs : List ℕ) → length (flat_map hex_byte xs) ≡ 2 * length xs
hex-length [] = refl
hex-length (x ∷ xs) = omega (arith, hex-length xs)

hex-take : (k : ℕ) (xs : List ℕ) → take (2 * k) (flat_map hex_byte xs) ≡ flat_map hex_byte (take k xs)
hex-take zero xs = refl
hex-take (suc k) [] =
    let next : 2 * suc k ≡ suc (suc (2 * k)) = omega arith in
    ap (λ n. take {A = ℕ} n []) next
hex-take (suc k) (x ∷ xs) =
    let next : 2 * suc k ≡ suc (suc (2 * k)) = omega arith in
    ap (λ n. take n (flat_map hex_byte (x ∷ xs))) next ∙ ap (λ t. hex_digit (x / 16) ∷ hex_digit (x % 16) ∷ t) (hex-take k xs)

-- the next sixteen bytes
pub digits-next : {a b c : List ℕ} {at : ℕ} (xs : List ℕ) (done n : ℕ) → Placed a b at (flat_map hex_byte (take done xs)) (at + 2 * done)
    → Placed b c (at + 2 * done) (flat_map hex_byte (take n (drop done xs))) (at + 2 * done + 2 * n)
    → Placed a c at (flat_map hex_byte (take (done + n) xs)) (at + 2 * (done + n))
digits-next {a} {b} {c} {at} xs done n p q =
    let text : flat_map hex_byte (take done xs) ++ flat_map hex_byte (take n (drop done xs)) ≡ flat_map hex_byte (take (done + n) xs) =
    sym (flat_map-append hex_byte (take done xs) (take n (drop done xs))) ∙ ap (flat_map hex_byte) (sym (take-add done n xs)) in
    let end : at + 2 * done + 2 * n ≡ at + 2 * (done + n) = omega arith in
    subst (λ (e : ℕ). Placed a c at (flat_map hex_byte (take (done + n) xs)) e) end
    (subst (λ (t : List ℕ). Placed a c at t (at + 2 * done + 2 * n)) text (placed-then p q))

-- sixteen bytes more, which may overlap those before
pub digits-over : {a b c : List ℕ} {at : ℕ} (xs : List ℕ) (done from : ℕ) → at ≤ length a → from ≤ done → done ≤ length xs
    → Placed a b at (flat_map hex_byte (take done xs)) (at + 2 * done)
    → Placed b c (at + 2 * from) (flat_map hex_byte (take 16 (drop from xs))) (at + 2 * from + 32)
    → Placed a c at (flat_map hex_byte (take (from + 16) xs)) (at + 2 * (from + 16))
digits-over {a} {b} {c} {at} xs done from fits before within p q =
    let few : 2 * from ≤ length (flat_map hex_byte (take done xs)) = omega (arith, hex-length (take done xs), length-take-le done xs within) in
    let less : Placed a b at (flat_map hex_byte (take from xs)) (at + 2 * from) =
    subst (λ (t : List ℕ). Placed a b at t (at + 2 * from)) (hex-take from (take done xs) ∙ ap (flat_map hex_byte) (take-take from done xs before)) (placed-less (2 * from) fits few p) in
    digits-next {a = a} {b = b} {c = c} {at = at} xs from 16 less q

-- the last sixteen bytes, which may overlap those before
pub digits-last : {a b c : List ℕ} {at : ℕ} (xs : List ℕ) (done last : ℕ) → at ≤ length a → last ≤ done → done ≤ length xs → last + 16 ≡ length xs
    → Placed a b at (flat_map hex_byte (take done xs)) (at + 2 * done)
    → Placed b c (at + 2 * last) (flat_map hex_byte (take 16 (drop last xs))) (at + 2 * last + 32)
    → Placed a c at (flat_map hex_byte xs) (at + 2 * length xs)
digits-last {a} {b} {c} {at} xs done last fits before within whole p q =
    let next = digits-over {a = a} {b = b} {c = c} {at = at} xs done last fits before within p q in
    let end : at + 2 * (last + 16) ≡ at + 2 * length xs = ap (λ n. at + 2 * n) whole in
    subst (λ (e : ℕ). Placed a c at (flat_map hex_byte xs) e) end
    (subst (λ (t : List ℕ). Placed a c at (flat_map hex_byte t) (at + 2 * (last + 16))) (take_all (last + 16) xs (omega (arith, whole))) next)

-- a number from the digits that were spelled elsewhere, with bytes behind them that do not count
pub placed-number : (buf ys d r : List ℕ) (at start : ℕ) → start + length d ≡ 20 → length ys ≡ 40 → drop start ys ≡ d ++ r → at + 20 ≤ length buf
    → Placed buf (put_chunk (at + 16) (put_chunk at buf (take 16 (take (40 - start) (drop start ys)))) (take 4 (take (40 - (start + 16)) (drop (start + 16) ys)))) at d (at + (20 - start))
placed-number buf ys d r at start whole forty is fits =
    let xs : List ℕ = drop start ys in
    let long : 20 ≤ length xs = omega (arith, length-drop start ys) in
    let far : take 4 (drop (start + 16) ys) ≡ take 4 (drop 16 xs) = ap (take 4) (sym (drop-drop 16 start ys)) in
    let one : length (take 16 xs) ≡ 16 = length-take-le 16 xs (omega (arith, long)) in
    let four : length (take 4 (drop 16 xs)) ≡ 4 = length-take-le 4 (drop 16 xs) (omega (arith, length-drop 16 xs)) in
    let mid : List ℕ = put_chunk at buf (take 16 xs) in
    let first : Placed buf mid at (take 16 xs) (at + 16) = record {
      bytes = take_more_put_chunk at buf (take 16 xs) (at + 16) (omega (arith, one)) (omega arith);
      moved = omega (arith, one);
      len = length-put_chunk at buf (take 16 xs);
    } in
    let second : Placed mid (put_chunk (at + 16) mid (take 4 (drop 16 xs))) (at + 16) (take 4 (drop 16 xs)) (at + 20) = record {
      bytes = take_more_put_chunk (at + 16) mid (take 4 (drop 16 xs)) (at + 20) (omega (arith, four)) (omega (arith, first.len));
      moved = omega (arith, four);
      len = length-put_chunk (at + 16) mid (take 4 (drop 16 xs));
    } in
    let both : Placed buf (put_chunk (at + 16) mid (take 4 (drop 16 xs))) at (take 20 xs) (at + 20) =
    subst (λ (t : List ℕ). Placed buf (put_chunk (at + 16) mid (take 4 (drop 16 xs))) at t (at + 20)) (sym (take-add 16 4 xs)) (placed-then first second) in
    let kept : take (length d) (take 20 xs) ≡ d = take-take (length d) 20 xs (omega (arith, whole)) ∙ ap (take (length d)) is ∙ take-append_seam d r in
    let end : at + length d ≡ at + (20 - start) = omega (arith, whole) in
    let one-is : take 16 xs ≡ take 16 (take (40 - start) xs) = ap (take 16) (sym (take_all (40 - start) xs (omega (arith, length-drop start ys)))) in
    let four-is : take 4 (drop 16 xs) ≡ take 4 (take (40 - (start + 16)) (drop (start + 16) ys)) = sym far ∙ ap (take 4) (sym (take_all (40 - (start + 16)) (drop (start + 16) ys) (omega (arith, length-drop (start + 16) ys)))) in
    let kept-all : Placed buf (put_chunk (at + 16) mid (take 4 (drop 16 xs))) at d (at + length d) =
    subst (λ (t : List ℕ). Placed buf (put_chunk (at + 16) mid (take 4 (drop 16 xs))) at t (at + length d)) kept
    (placed-less (length d) (omega arith) (omega (arith, whole, length-take-le 20 xs long)) both) in
    subst (λ (e : ℕ). Placed buf (put_chunk (at + 16) (put_chunk at buf (take 16 (take (40 - start) xs))) (take 4 (take (40 - (start + 16)) (drop (start + 16) ys)))) at d e) end
    (subst (λ (tail : List ℕ). Placed buf (put_chunk (at + 16) (put_chunk at buf (take 16 (take (40 - start) xs))) tail) at d (at + length d)) four-is
    (subst (λ (first : List ℕ). Placed buf (put_chunk (at + 16) (put_chunk at buf first) (take 4 (drop 16 xs))) at d (at + length d)) one-is kept-all))
