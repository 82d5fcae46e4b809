-- What passes that are made one know and have together, for the layers above.
use Rattle.std.proofs.Common.{◌≡◌, ℕ, suc, cond, ◌+◌, ◌<◌, if◌then◌else◌, Bool, List, [], ◌∷◌, ◌++◌, map, length, refl, sym, ap, ◌∙◌, subst, inl, inr, ⊎_elim, arith}
use Rattle.std.specs.Prelude.{count_by}
use Rattle.std.specs.List.{range_with_len}
use Rattle.std.proofs.lemmas.List.Sums.{sum_by-cons}
use lib.ListN.{length-map}
use Rattle.nm_turn.specs.Numbered.{numbered, inserted, merged, values, numbers, Stands, IsPicked}
use Rattle.nm_turn.specs.declared.view.PassView.{PassView}
use Rattle.nm_turn.specs.Shares.{whole, half, both_parts, IsWhole}
use Rattle.nm_turn.specs.Passes.{Knows, HasAll, joined_view}
use Rattle.nm_turn.proofs.Numbered.{by_number}

module _ {X : Type 0} where
  pub picked_more : (xs ys zs : List X) → IsPicked xs ys → IsPicked xs (ys ++ zs)
  picked_more [] ys zs p = tt
  picked_more (x ∷ xs) [] zs p = absurd p
  picked_more (x ∷ xs) (y ∷ ys) zs p = ⊎_elim (λ (t : (x ≡ y) × IsPicked xs ys). inl (t.0, picked_more xs ys zs t.1)) (λ (t : IsPicked (x ∷ xs) ys). inr (picked_more (x ∷ xs) ys zs t)) p

  pub picked-map : {Y : Type 0} (f : X → Y) (xs ys : List X) → IsPicked xs ys → IsPicked (map f xs) (map f ys)
  picked-map f [] ys p = tt
  picked-map f (x ∷ xs) [] p = absurd p
  picked-map f (x ∷ xs) (y ∷ ys) p = ⊎_elim (λ (t : (x ≡ y) × IsPicked xs ys). inl (ap f t.0, picked-map f xs ys t.1)) (λ (t : IsPicked (x ∷ xs) ys). inr (picked-map f (x ∷ xs) ys t)) p

module _ {E : Type 0} where
  pub values-numbered : (n : ℕ) (es : List E) → values (numbered n es) ≡ es
  values-numbered n [] = refl
  values-numbered n (e ∷ es) = ap (λ (l : List E). e ∷ l) (values-numbered (n + 1) es)

  length-inserted : (x : ℕ × E) (ys : List (ℕ × E)) → length (inserted x ys) ≡ suc (length ys)
  length-inserted x [] = refl
  length-inserted x (y ∷ ys) = by_number x.0 y.0 (λ b. length (if b then x ∷ y ∷ ys else y ∷ inserted x ys) ≡ suc (suc (length ys))) (λ _. refl) (λ _. ap suc (length-inserted x ys))

  pub length-merged : (xs ys : List (ℕ × E)) → length (merged xs ys) ≡ length xs + length ys
  length-merged [] ys = omega arith
  length-merged (x ∷ xs) ys = length-inserted x (merged xs ys) ∙ (let e = length-merged xs ys in omega arith)

  -- what a pass made stands in the whole history, in its order
  pub values-picked : (root : E → ℕ → ℕ) (history seen : List E) (mine : List (ℕ × E)) → Knows root history seen mine → IsPicked (values mine) history
  values-picked root history seen mine k =
      let in_seen : IsPicked (values mine) seen = subst (IsPicked (values mine)) (values-numbered 1 seen) (picked-map (λ (m : ℕ × E). m.1) mine (numbered 1 seen) k.stands) in
      subst (IsPicked (values mine)) k.begins.1 (picked_more (values mine) seen k.begins.0 in_seen)

  -- the history of two passes has as many entries as both made
  pub length-both : (history : List E) (m n : List (ℕ × E)) → merged m n ≡ numbered 1 history → length history ≡ length (values m) + length (values n)
  length-both history m n e =
      let all = ap length (values-numbered 1 history) in
      let a = length-map (numbered 1 history) (λ (x : ℕ × E). x.1) in
      let b = ap length e in
      let c = length-merged m n in
      let d = length-map m (λ (x : ℕ × E). x.1) in
      let f = length-map n (λ (x : ℕ × E). x.1) in omega (arith, all, a, b, c, d, f)

module _ {E F : Type 0} where
  -- two halves make the whole
  pub joined_whole : (v w x : PassView E F) → v.part ≡ half whole → w.part ≡ half whole → x ≡ joined_view v w → IsWhole x.part
  joined_whole v w x a b e = subst IsWhole (sym (ap (λ (y : PassView E F). y.part) e ∙ (λ i. both_parts (a i) (b i)))) refl

  pub joined_mine : (history : List E) (v w x : PassView E F) → x ≡ joined_view v w → HasAll history x.seen x.mine → merged v.mine w.mine ≡ numbered 1 history
  joined_mine history v w x e all = sym (ap (λ (y : PassView E F). y.mine) e) ∙ all.all_mine

-- ---- the numbers of what passes made

module _ {E : Type 0} where
  -- a number among the picked is one among all
  pub picked-Stands : (n : ℕ) (xs ys : List (ℕ × E)) → IsPicked xs ys → Stands n xs → Stands n ys
  picked-Stands n [] ys p st = absurd st
  picked-Stands n (x ∷ xs) [] p st = absurd p
  picked-Stands n (x ∷ xs) (y ∷ ys) (inl h) (inl e) = inl (e ∙ ap (λ (z : ℕ × E). z.0) h.0)
  picked-Stands n (x ∷ xs) (y ∷ ys) (inl h) (inr st) = inr (picked-Stands n xs ys h.1 st)
  picked-Stands n (x ∷ xs) (y ∷ ys) (inr h) st = inr (picked-Stands n (x ∷ xs) ys h st)

  pub numbered-within : (n first : ℕ) (es : List E) → Stands n (numbered first es) → n < first + length es
  numbered-within n first [] st = absurd st
  numbered-within n first (e ∷ es) (inl same) = omega arith
  numbered-within n first (e ∷ es) (inr st) = let rest = numbered-within n (first + 1) es st in omega arith

  pub numbers-all : (first : ℕ) (es : List E) → numbers (numbered first es) ≡ range_with_len first (length es)
  numbers-all first [] = refl
  numbers-all first (e ∷ es) = let rest = numbers-all (first + 1) es in ap (λ (l : List ℕ). first ∷ l) rest

-- each number stands among those of both as often as in the one and the other
counted-inserted : {E : Type 0} (p : ℕ → Bool) (x : ℕ × E) (ys : List (ℕ × E)) → count_by p (numbers (inserted x ys)) ≡ cond {A = ℕ} (p x.0) 1 0 + count_by p (numbers ys)
counted-inserted p x [] = sum_by-cons (λ k. cond (p k) 1 0) x.0 []
counted-inserted {E} p x (y ∷ ys) =
    let rest = counted-inserted p x ys in
    let first = sum_by-cons (λ k. cond {A = ℕ} (p k) 1 0) x.0 (numbers (y ∷ ys)) in
    let old : count_by p (numbers (y ∷ ys)) ≡ cond {A = ℕ} (p y.0) 1 0 + count_by p (numbers ys) = sum_by-cons (λ k. cond (p k) 1 0) y.0 (numbers ys) in
    let new : count_by p (numbers (y ∷ inserted x ys)) ≡ cond {A = ℕ} (p y.0) 1 0 + count_by p (numbers (inserted x ys)) = sum_by-cons (λ k. cond (p k) 1 0) y.0 (numbers (inserted x ys)) in
    by_number x.0 y.0 (λ b. count_by p (numbers (if b then x ∷ y ∷ ys else y ∷ inserted x ys)) ≡ cond {A = ℕ} (p x.0) 1 0 + count_by p (numbers (y ∷ ys)))
    (λ _. first) (λ _. omega arith)

pub counted-merged : {E : Type 0} (p : ℕ → Bool) (xs ys : List (ℕ × E)) → count_by p (numbers (merged xs ys)) ≡ count_by p (numbers xs) + count_by p (numbers ys)
counted-merged p [] ys = omega arith
counted-merged p (x ∷ xs) ys =
    let rest = counted-merged p xs ys in
    let more = counted-inserted p x (merged xs ys) in
    let whole : count_by p (numbers (x ∷ xs)) ≡ cond {A = ℕ} (p x.0) 1 0 + count_by p (numbers xs) = sum_by-cons (λ k. cond (p k) 1 0) x.0 (numbers xs) in
    omega arith
