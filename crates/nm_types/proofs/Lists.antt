-- Laws of lists that several crates use.
use Rattle.std.proofs.Common.{ℕ, zero, suc, List, [], ◌∷◌, ◌≡◌, ◌<◌, ◌+◌, ◌&&◌, ◌++◌, Bool, length, drop, get_or, refl, arith, slice_get, Some}
use Rattle.std.specs.List.{list_all, AllByRecursion as Each}

-- what is left from an element on
pub drop-slice_get : {X : Type 0} (xs : List X) (i : ℕ) (x : X) → slice_get xs i ≡ Some x → drop i xs ≡ x ∷ drop (i + 1) xs
drop-slice_get [] i x e = cc
drop-slice_get (y ∷ ys) zero x e = cc
drop-slice_get (y ∷ ys) (suc i) x e =
    let rest = drop-slice_get ys i x e in
    let next : suc i + 1 ≡ suc (i + 1) = omega arith in
    rw next rest

pub drop-get_or : {X : Type 0} (xs : List X) (i : ℕ) (d : X) → i < length xs → drop i xs ≡ get_or xs i d ∷ drop (i + 1) xs
drop-get_or [] i d within = absurd (omega (arith, within))
drop-get_or (x ∷ xs) zero d within = refl
drop-get_or (x ∷ xs) (suc i) d within = let next : suc i + 1 ≡ suc (i + 1) = omega arith in rw next (drop-get_or xs i d (omega (arith, within)))

-- a test of all elements from one on, cut at that one
pub list_all-drop : {X : Type 0} (p : X → Bool) (xs : List X) (i : ℕ) (x : X) → slice_get xs i ≡ Some x → list_all p (drop i xs) ≡ (p x && list_all p (drop (i + 1) xs))
list_all-drop p xs i x e = rw (drop-slice_get xs i x e) refl

-- what holds of each member of two lists, joined
pub each-joined : {X : Type 0} (P : X → Type 0) (xs ys : List X) → Each P xs → Each P ys → Each P (xs ++ ys)
each-joined P [] ys front back = back
each-joined P (x ∷ xs) ys front back = (front.0, each-joined P xs ys front.1 back)

pub each-front : {X : Type 0} (P : X → Type 0) (xs ys : List X) → Each P (xs ++ ys) → Each P xs
each-front P [] ys all = tt
each-front P (x ∷ xs) ys all = (all.0, each-front P xs ys all.1)

pub each-back : {X : Type 0} (P : X → Type 0) (xs ys : List X) → Each P (xs ++ ys) → Each P ys
each-back P [] ys all = all
each-back P (x ∷ xs) ys all = each-back P xs ys all.1
