-- Two lists, one behind the other, cut in the first or in the second.
use Rattle.std.proofs.Common.{◌≡◌, ℕ, zero, suc, ◌+◌, ◌<◌, ◌≤◌, List, [], ◌∷◌, ◌++◌, length, get_or, set, take, drop, refl, ap, arith}
use Rattle.std.proofs.lemmas.List.{length-append, length-drop, length-take-le}
use Rattle.nm_reach.specs.Cells.{refilled}

module _ {X : Type 0} where
  pub take_low : (k : ℕ) (xs ys : List X) → k ≤ length xs → take k (xs ++ ys) ≡ take k xs
  take_low zero xs ys h = refl
  take_low (suc k) [] ys h = absurd (omega arith)
  take_low (suc k) (x ∷ xs) ys h = ap (λ l. x ∷ l) (take_low k xs ys (omega arith))

  pub drop_low : (k : ℕ) (xs ys : List X) → k ≤ length xs → drop k (xs ++ ys) ≡ drop k xs ++ ys
  drop_low zero xs ys h = refl
  drop_low (suc k) [] ys h = absurd (omega arith)
  drop_low (suc k) (x ∷ xs) ys h = drop_low k xs ys (omega arith)

  pub take_high : (k j : ℕ) (xs ys : List X) → k ≡ length xs + j → take k (xs ++ ys) ≡ xs ++ take j ys
  take_high k j [] ys h = let same : k ≡ j = omega arith in ap (λ n. take n ys) same
  take_high zero j (x ∷ xs) ys h = absurd (omega arith)
  take_high (suc k) j (x ∷ xs) ys h = ap (λ l. x ∷ l) (take_high k j xs ys (omega arith))

  pub drop_high : (k j : ℕ) (xs ys : List X) → k ≡ length xs + j → drop k (xs ++ ys) ≡ drop j ys
  drop_high k j [] ys h = let same : k ≡ j = omega arith in ap (λ n. drop n ys) same
  drop_high zero j (x ∷ xs) ys h = absurd (omega arith)
  drop_high (suc k) j (x ∷ xs) ys h = drop_high k j xs ys (omega arith)

  pub set_low : (i : ℕ) (xs ys : List X) (w : X) → i < length xs → set (xs ++ ys) i w ≡ set xs i w ++ ys
  set_low i [] ys w h = absurd (omega arith)
  set_low zero (x ∷ xs) ys w h = refl
  set_low (suc i) (x ∷ xs) ys w h = ap (λ l. x ∷ l) (set_low i xs ys w (omega arith))

  pub set_high : (i j : ℕ) (xs ys : List X) (w : X) → i ≡ length xs + j → set (xs ++ ys) i w ≡ xs ++ set ys j w
  set_high i j [] ys w h = let same : i ≡ j = omega arith in ap (λ n. set ys n w) same
  set_high zero j (x ∷ xs) ys w h = absurd (omega arith)
  set_high (suc i) j (x ∷ xs) ys w h = ap (λ l. x ∷ l) (set_high i j xs ys w (omega arith))

  pub get_low : (i : ℕ) (xs ys : List X) (d : X) → i < length xs → get_or (xs ++ ys) i d ≡ get_or xs i d
  get_low i [] ys d h = absurd (omega arith)
  get_low zero (x ∷ xs) ys d h = refl
  get_low (suc i) (x ∷ xs) ys d h = get_low i xs ys d (omega arith)

  pub get_high : (i j : ℕ) (xs ys : List X) (d : X) → i ≡ length xs + j → get_or (xs ++ ys) i d ≡ get_or ys j d
  get_high i j [] ys d h = let same : i ≡ j = omega arith in ap (λ n. get_or ys n d) same
  get_high zero j (x ∷ xs) ys d h = absurd (omega arith)
  get_high (suc i) j (x ∷ xs) ys d h = get_high i j xs ys d (omega arith)

  -- a list of no elements
  pub none : (xs : List X) → length xs ≡ 0 → xs ≡ []
  none [] h = refl
  none (x ∷ xs) h = absurd (omega arith)

  pub none_first : (xs ys : List X) → xs ++ ys ≡ [] → xs ≡ []
  none_first [] ys h = refl
  none_first (x ∷ xs) ys h = absurd cc

  pub none_behind : (xs ys : List X) → xs ++ ys ≡ [] → ys ≡ []
  none_behind [] ys h = h
  none_behind (x ∷ xs) ys h = absurd cc

  -- values that were written over are as many
  pub length_refilled : (xs ws : List X) → length (refilled xs ws) ≡ length xs
  length_refilled xs ws =
      let both = length-append ws (drop (length ws) xs) in
      let left = length-drop (length ws) xs in
      length-take-le (length xs) (ws ++ drop (length ws) xs) (omega (arith, both, left))
