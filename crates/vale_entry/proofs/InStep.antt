-- Two lists in step, element by element: what stands beside an element, and the lists after a
-- change of both.
use Rattle.std.proofs.Common.{ℕ, zero, suc, ◌≡◌, List, [], ◌∷◌, ◌++◌, Some, refl, subst, slice_get, slice_set}
use Rattle.std.specs.List.{AllZip, remove}

module _ {A B : Type 0} (R : A → B → Type 0) where
  -- what stands beside the element at a place
  pub record Beside (ys : List B) (i : ℕ) (x : A) : Type 0 where
    pub item : B
    pub here : slice_get ys i ≡ Some item
    pub holds : R x item

  pub zip-at :
      (xs : List A) (ys : List B) (i : ℕ) (x : A) → AllZip R xs ys → slice_get xs i ≡ Some x
      → Beside ys i x
  zip-at [] ys i x all e = absurd cc
  zip-at (z ∷ xs) [] i x all e = absurd all
  zip-at (z ∷ xs) (y ∷ ys) zero x all e =
      let same : z ≡ x = cc in
      record { item = y; here = refl; holds = subst (λ (a : A). R a y) same all.0 }
  zip-at (z ∷ xs) (y ∷ ys) (suc i) x all e =
      let rest = zip-at xs ys i x all.1 e in
      record { item = rest.item; here = rest.here; holds = rest.holds }

  pub zip-set :
      (xs : List A) (ys : List B) (i : ℕ) (x : A) (y : B) → AllZip R xs ys → R x y
      → AllZip R (slice_set xs i x) (slice_set ys i y)
  zip-set [] [] i x y all new = tt
  zip-set [] (b ∷ ys) i x y all new = absurd all
  zip-set (a ∷ xs) [] i x y all new = absurd all
  zip-set (a ∷ xs) (b ∷ ys) zero x y all new = (new, all.1)
  zip-set (a ∷ xs) (b ∷ ys) (suc i) x y all new = (all.0, zip-set xs ys i x y all.1 new)

  pub zip-push :
      (xs : List A) (ys : List B) (x : A) (y : B) → AllZip R xs ys → R x y
      → AllZip R (xs ++ x ∷ []) (ys ++ y ∷ [])
  zip-push [] [] x y all new = (new, tt)
  zip-push [] (b ∷ ys) x y all new = absurd all
  zip-push (a ∷ xs) [] x y all new = absurd all
  zip-push (a ∷ xs) (b ∷ ys) x y all new = (all.0, zip-push xs ys x y all.1 new)

  pub zip-remove :
      (xs : List A) (ys : List B) (i : ℕ) → AllZip R xs ys → AllZip R (remove xs i) (remove ys i)
  zip-remove [] [] zero all = tt
  zip-remove [] [] (suc i) all = tt
  zip-remove [] (b ∷ ys) i all = absurd all
  zip-remove (a ∷ xs) [] i all = absurd all
  zip-remove (a ∷ xs) (b ∷ ys) zero all = all.1
  zip-remove (a ∷ xs) (b ∷ ys) (suc i) all = (all.0, zip-remove xs ys i all.1)
