-- Laws of lists: the place of an element, sums after a change at a place, a list cut into two
-- parts.
use Rattle.std.proofs.Common.{ℕ, zero, suc, ◌+◌, ◌≤◌, ◌≡◌, Bool, true, false, cond, List, [], ◌∷◌, ◌++◌, map, length, take, drop, find, sum_by, flat_map, Some, refl, ap, subst, arith, slice_get, slice_set}
use Rattle.std.specs.List.{AllByRecursion as Each, remove}
use Rattle.std.proofs.lemmas.List.Sums.{sum_by-cons, sum_by-append}

-- an element that a search finds, with its place
pub record IsPlace {X : Type 0} (xs : List X) (test : X → Bool) (x : X) : Type 0 where
  pub place : ℕ
  pub here : slice_get xs place ≡ Some x
  pub passes : test x ≡ true

place_by : {X : Type 0} (test : X → Bool) (y : X) (ys : List X) (x : X) (b : Bool) → test y ≡ b
    → (find test ys ≡ Some x → IsPlace ys test x) → cond b (Some y) (find test ys) ≡ Some x
    → IsPlace (y ∷ ys) test x
place_by test y ys x true t later e =
    let same : y ≡ x = cc in
    record { place = 0; here = e; passes = subst (λ z. test z ≡ true) same t }
place_by test y ys x false t later e =
    let rest = later e in
    record { place = suc rest.place; here = rest.here; passes = rest.passes }

pub place-of :
    {X : Type 0} (test : X → Bool) (xs : List X) (x : X) → find test xs ≡ Some x → IsPlace xs test x
place-of test [] x e = absurd cc
place-of test (y ∷ ys) x e = place_by test y ys x (test y) refl (place-of test ys x) e

pub each-at :
    {X : Type 0} (P : X → Type 0) (xs : List X) (i : ℕ) (x : X) → Each P xs
    → slice_get xs i ≡ Some x → P x
each-at P [] i x all e = absurd cc
each-at P (y ∷ ys) zero x all e = let same : y ≡ x = cc in subst P same all.0
each-at P (y ∷ ys) (suc i) x all e = each-at P ys i x all.1 e

pub each-set :
    {X : Type 0} (P : X → Type 0) (xs : List X) (i : ℕ) (x : X) → Each P xs → P x
    → Each P (slice_set xs i x)
each-set P [] i x all here = tt
each-set P (y ∷ ys) zero x all here = (here, all.1)
each-set P (y ∷ ys) (suc i) x all here = (all.0, each-set P ys i x all.1 here)

pub sum-set : {X : Type 0} (f : X → ℕ) (xs : List X) (i : ℕ) (x y : X) → slice_get xs i ≡ Some x
    → sum_by f (slice_set xs i y) + f x ≡ sum_by f xs + f y
sum-set f [] i x y e = absurd cc
sum-set f (z ∷ zs) zero x y e =
    let same : z ≡ x = cc in
    let value : f z ≡ f x = ap f same in
    let old = sum_by-cons f z zs in
    let new = sum_by-cons f y zs in
    omega arith
sum-set f (z ∷ zs) (suc i) x y e =
    let rest = sum-set f zs i x y e in
    let old = sum_by-cons f z zs in
    let new = sum_by-cons f z (slice_set zs i y) in
    omega arith

-- a sum that a map keeps
pub sum-map_same :
    {X Y : Type 0} (f : Y → ℕ) (g : X → ℕ) (change : X → Y) → ((x : X) → f (change x) ≡ g x)
    → (xs : List X)
    → sum_by f (map change xs) ≡ sum_by g xs
sum-map_same f g change keeps [] = refl
sum-map_same f g change keeps (x ∷ xs) =
    let here = keeps x in
    let rest = sum-map_same f g change keeps xs in
    let old = sum_by-cons g x xs in
    let new = sum_by-cons f (change x) (map change xs) in
    omega arith

pub sum-flat_map :
    {X Y : Type 0} (f : Y → ℕ) (parts : X → List Y) (xs : List X)
    → sum_by f (flat_map parts xs) ≡ sum_by (λ x. sum_by f (parts x)) xs
sum-flat_map f parts [] = refl
sum-flat_map f parts (x ∷ xs) =
    let rest = sum-flat_map f parts xs in
    let cut = sum_by-append f (parts x) (flat_map parts xs) in
    let sum = sum_by-cons (λ y. sum_by f (parts y)) x xs in
    omega arith

-- a front and what is left behind it
pub front-rest : {X : Type 0} (n : ℕ) (xs : List X) → take n xs ++ drop (length (take n xs)) xs ≡ xs
front-rest zero xs = refl
front-rest (suc n) [] = refl
front-rest (suc n) (x ∷ xs) = let rest = front-rest n xs in cc

pub drop-length_take : {X : Type 0} (n : ℕ) (xs : List X) → drop (length (take n xs)) xs ≡ drop n xs
drop-length_take zero xs = refl
drop-length_take (suc n) [] = refl
drop-length_take (suc n) (x ∷ xs) = drop-length_take n xs

pub map-set_same :
    {X Y : Type 0} (f : X → Y) (xs : List X) (i : ℕ) (x y : X) → slice_get xs i ≡ Some x → f y ≡ f x
    → map f (slice_set xs i y) ≡ map f xs
map-set_same f [] i x y e same = refl
map-set_same f (z ∷ zs) zero x y e same =
    let here : z ≡ x = cc in
    let value : f z ≡ f x = ap f here in
    cc
map-set_same f (z ∷ zs) (suc i) x y e same = let rest = map-set_same f zs i x y e same in cc

pub sum-remove :
    {X : Type 0} (f : X → ℕ) (xs : List X) (i : ℕ) (x : X) → slice_get xs i ≡ Some x
    → sum_by f (remove xs i) + f x ≡ sum_by f xs
sum-remove f [] i x e = absurd cc
sum-remove f (y ∷ ys) zero x e =
    let same : y ≡ x = cc in
    let value : f y ≡ f x = ap f same in
    let sum = sum_by-cons f y ys in
    omega arith
sum-remove f (y ∷ ys) (suc i) x e =
    let rest = sum-remove f ys i x e in
    let old = sum_by-cons f y ys in
    let new = sum_by-cons f y (remove ys i) in
    omega arith

pub sum-at :
    {X : Type 0} (f : X → ℕ) (xs : List X) (i : ℕ) (x : X) → slice_get xs i ≡ Some x
    → f x ≤ sum_by f xs
sum-at f xs i x e = let rest = sum-remove f xs i x e in omega arith
