-- Lists in which each element stands as often are permutations of each other, and so are what a test
-- keeps of them.
use Rattle.std.proofs.Common.{ℕ, Bool, true, false, cond, ◌≡◌, ◌≤◌, ◌+◌, List, [], ◌∷◌, ◌++◌, filter, count_by, refl, sym, ◌∙◌, ap, subst, arith, ◌&&◌, IsPermutation}
use Rattle.std.proofs.lemmas.List.Sums.{sum_by-cons, sum_by-append}
use Rattle.std.proofs.lemmas.List.Sorted.{IsPermutation-refl, IsPermutation-cons, IsPermutation-middle, IsPermutation-sym, IsPermutation-trans, sum_by-IsPermutation}

abbrev one_if : Bool → ℕ
one_if b = cond b 1 0

module _ {X : Type 0} where
  count_cons : (test : X → Bool) (x : X) (xs : List X) → count_by test (x ∷ xs) ≡ one_if (test x) + count_by test xs
  count_cons test x xs = sum_by-cons (λ (y : X). one_if (test y)) x xs

  count_join : (test : X → Bool) (xs ys : List X) → count_by test (xs ++ ys) ≡ count_by test xs + count_by test ys
  count_join test xs ys = sum_by-append (λ (y : X). one_if (test y)) xs ys

  -- what a test keeps
  kept_by : (test : X → Bool) (x : X) (xs : List X) (b : Bool) (n : ℕ) → count_by test xs ≡ n → count_by test (cond b (x ∷ xs) xs) ≡ one_if (test x && b) + n
  kept_by test x xs true n e = count_cons test x xs ∙ (ap (λ (m : ℕ). one_if (test x) + m) e ∙ ap (λ (b : Bool). one_if b + n) (sym (and_true (test x))))
    where
      and_true : (b : Bool) → (b && true) ≡ b
      and_true true = refl
      and_true false = refl
  kept_by test x xs false n e = e ∙ (zero_more n ∙ ap (λ (b : Bool). one_if b + n) (sym (and_false (test x))))
    where
      and_false : (b : Bool) → (b && false) ≡ false
      and_false true = refl
      and_false false = refl

      zero_more : (n : ℕ) → n ≡ 0 + n
      zero_more n = omega arith

  pub count-filter : (test keep : X → Bool) (xs : List X) → count_by test (filter keep xs) ≡ count_by (λ x. test x && keep x) xs
  count-filter test keep [] = refl
  count-filter test keep (x ∷ xs) =
      kept_by test x (filter keep xs) (keep x) (count_by (λ y. test y && keep y) xs) (count-filter test keep xs) ∙ sym (count_cons (λ y. test y && keep y) x xs)

  -- an element and what stands around it
  record IsAround (x : X) (xs : List X) : Type 0 where
    before : List X
    after : List X
    is : xs ≡ before ++ x ∷ after

  module _ (same : X → X → Bool) (sound : (x y : X) → same x y ≡ true → x ≡ y) (own : (x : X) → same x x ≡ true) where
    around : (x : X) (xs : List X) → 1 ≤ count_by (same x) xs → IsAround x xs
    around x [] some = absurd (omega arith)
    around x (y ∷ ys) some =
        let sum = count_cons (same x) y ys in by_test (same x y) refl sum (around x ys)
      where
        by_test : (b : Bool) → same x y ≡ b → count_by (same x) (y ∷ ys) ≡ one_if b + count_by (same x) ys → (1 ≤ count_by (same x) ys → IsAround x ys) → IsAround x (y ∷ ys)
        by_test true t sum rest = record { before = []; after = ys; is = ap (λ (z : X). z ∷ ys) (sym (sound x y t)) }
        by_test false t sum rest =
            let later = rest (omega (arith, some, sum)) in
            record { before = y ∷ later.before; after = later.after; is = ap (λ (zs : List X). y ∷ zs) later.is }

    pub permutation-by : (xs ys : List X) → ((x : X) → count_by (same x) xs ≡ count_by (same x) ys) → IsPermutation xs ys
    permutation-by [] [] alike = IsPermutation-refl []
    permutation-by [] (y ∷ ys) alike =
        let sum = count_cons (same y) y ys in
        let one : one_if (same y y) ≡ 1 = ap one_if (own y) in
        let none = alike y in
        absurd (omega (arith, sum, one, none))
    permutation-by (x ∷ xs) ys alike =
        let sum = count_cons (same x) x xs in
        let one : one_if (same x x) ≡ 1 = ap one_if (own x) in
        let equal = alike x in
        let place = around x ys (omega (arith, sum, one, equal)) in
        let rest = permutation-by xs (place.before ++ place.after) (λ z.
        let left = count_cons (same z) x xs in
        let right = ap (count_by (same z)) place.is in
        let split = count_join (same z) place.before (x ∷ place.after) in
        let middle = count_cons (same z) x place.after in
        let whole = count_join (same z) place.before place.after in
        let all = alike z in
        omega (arith, left, right, split, middle, whole, all)) in
        subst (λ (zs : List X). IsPermutation (x ∷ xs) zs) (sym place.is)
        (IsPermutation-trans (x ∷ xs) (x ∷ (place.before ++ place.after)) (place.before ++ x ∷ place.after) (IsPermutation-cons x xs (place.before ++ place.after) rest)
        (IsPermutation-sym (place.before ++ x ∷ place.after) (x ∷ (place.before ++ place.after)) (IsPermutation-middle place.before x place.after)))

    pub filter-permutation : (keep : X → Bool) (xs ys : List X) → IsPermutation xs ys → IsPermutation (filter keep xs) (filter keep ys)
    filter-permutation keep xs ys permutes =
        permutation-by (filter keep xs) (filter keep ys) (λ x.
        count-filter (same x) keep xs
        ∙ (sym (sum_by-IsPermutation (λ (y : X). one_if (same x y && keep y)) xs ys permutes) ∙ sym (count-filter (same x) keep ys)))
