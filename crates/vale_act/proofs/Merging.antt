-- A pass that takes in another one that has made nothing, and what either has seen.
use Rattle.std.proofs.Common.{◌≡◌, ℕ, ◌+◌, ◌<◌, ◌≤◌, ◌⊎◌, inl, inr, if◌then◌else◌, List, [], ◌∷◌, length, refl, sym, ap, ◌∙◌, arith}
use Rattle.nm_turn.specs.Numbered.{numbered, inserted, merged, Stands, IsPicked}
use Rattle.nm_turn.proofs.Numbered.{by_number}
use Rattle.nm_turn.proofs.Joining.{picked-Stands}

module _ {E : Type 0} where
  -- each of these entries has a number from n on
  stands-from : (k n : ℕ) (es : List E) → Stands k (numbered n es) → n ≤ k
  stands-from k n [] st = absurd st
  stands-from k n (e ∷ es) (inl same) = omega (arith, same)
  stands-from k n (e ∷ es) (inr st) = let rest = stands-from k (n + 1) es st in omega (arith, rest)

  first-in : (x : ℕ × E) (xs : List (ℕ × E)) → ((k : ℕ) → Stands k xs → x.0 < k) → inserted x xs ≡ x ∷ xs
  first-in x [] low = refl
  first-in x (y ∷ ys) low =
      let lt = low y.0 (inl refl) in
      by_number x.0 y.0 (λ b. (if b then x ∷ y ∷ ys else y ∷ inserted x ys) ≡ x ∷ y ∷ ys) (λ _. refl) (λ ge. absurd (omega (arith, lt, ge)))

  -- what a pass has made is in order
  pub merged-none : (n : ℕ) (es : List E) (xs : List (ℕ × E)) → IsPicked xs (numbered n es) → merged xs [] ≡ xs
  merged-none n es [] p = refl
  merged-none n [] (x ∷ xs) p = absurd p
  merged-none n (e ∷ es) (x ∷ xs) (inl here) =
      ap (inserted x) (merged-none (n + 1) es xs here.1)
      ∙ first-in x xs (λ k st. let at : x.0 ≡ n = ap (λ (m : ℕ × E). m.0) here.0 in let low = stands-from k (n + 1) es (picked-Stands k xs (numbered (n + 1) es) here.1 st) in omega (arith, at, low))
  merged-none n (e ∷ es) (x ∷ xs) (inr later) = merged-none (n + 1) es (x ∷ xs) later
