-- Two lists in which each number stands as often have equal sums.
use Rattle.std.proofs.Common.{Bool, true, false, cond, ℕ, ◌+◌, ◌≤◌, ◌≡◌, ◌⊎◌, inl, inr, List, [], ◌∷◌, sum_by, refl, sym, ◌∙◌, ap, arith}
use Rattle.std.specs.Prelude.{◌==◌}
use Rattle.std.proofs.lemmas.Bool.{eqb-true, eq-eqb, cases_Bool}
use Rattle.std.proofs.lemmas.List.Sums.{sum_by-cons}
use Rattle.vale_entry.proofs.Counting.{count_of, count_of-cons}

-- the list without the first of these
abbrev without_one : ℕ → List ℕ → List ℕ
without_one x [] = []
without_one x (y ∷ ys) = cond (y == x) ys (y ∷ without_one x ys)

part-out : (f : ℕ → ℕ) (x : ℕ) (ys : List ℕ) → 1 ≤ count_of x ys
    → sum_by f ys ≡ f x + sum_by f (without_one x ys)
part-out f x [] some = absurd (omega (arith, some))
part-out f x (y ∷ ys) some = by_here (cases_Bool (y == x)) (part-out f x ys)
  where
    front : sum_by f (y ∷ ys) ≡ f y + sum_by f ys
    front = sum_by-cons f y ys

    by_here : ((y == x) ≡ true) ⊎ ((y == x) ≡ false)
        → (1 ≤ count_of x ys → sum_by f ys ≡ f x + sum_by f (without_one x ys))
        → sum_by f (y ∷ ys) ≡ f x + sum_by f (without_one x (y ∷ ys))
    by_here (inl e) rest =
        front ∙ ap (λ (z : ℕ). f z + sum_by f ys) (eqb-true y x e) ∙ ap (λ (b : Bool). f x + sum_by f (cond b ys (y ∷ without_one x ys))) (sym e)
    by_here (inr e) rest =
        let less : count_of x (y ∷ ys) ≡ 0 + count_of x ys = count_of-cons x y ys ∙ ap (λ (b : Bool). cond b 1 0 + count_of x ys) e in
        let whole = rest (omega (arith, less, some)) in
        let behind = sum_by-cons f y (without_one x ys) in
        let moved : sum_by f (y ∷ ys) ≡ f x + sum_by f (y ∷ without_one x ys) = omega (arith, front, whole, behind) in
        moved ∙ ap (λ (b : Bool). f x + sum_by f (cond b ys (y ∷ without_one x ys))) (sym e)

cancel : (a b c d e : ℕ) → d ≡ a + b → e ≡ a + c → d ≡ e → b ≡ c
cancel a b c d e one two same = omega (arith, one, two, same)

counted-here : (x : ℕ) (xs : List ℕ) → count_of x (x ∷ xs) ≡ 1 + count_of x xs
counted-here x xs = count_of-cons x x xs ∙ ap (λ (b : Bool). cond b 1 0 + count_of x xs) (eq-eqb x x refl)

pub sum-same : (f : ℕ → ℕ) (xs ys : List ℕ) → ((z : ℕ) → count_of z xs ≡ count_of z ys) → sum_by f xs ≡ sum_by f ys
sum-same f [] [] same = refl
sum-same f [] (y ∷ ys) same =
    let none : 0 ≡ count_of y (y ∷ ys) = same y in
    let some = counted-here y ys in
    absurd (omega (arith, none, some))
sum-same f (x ∷ xs) ys same =
    sum_by-cons f x xs ∙ ap (λ (n : ℕ). f x + n) (sum-same f xs (without_one x ys) rest) ∙ sym (part-out f x ys some)
  where
    some : 1 ≤ count_of x ys
    some = let here = counted-here x xs in let e = same x in omega (arith, here, e)

    rest : (z : ℕ) → count_of z xs ≡ count_of z (without_one x ys)
    rest z = cancel (cond (x == z) 1 0) (count_of z xs) (count_of z (without_one x ys)) (count_of z (x ∷ xs)) (count_of z ys)
        (count_of-cons z x xs) (part-out (λ (y : ℕ). cond (y == z) 1 0) x ys some) (same z)
