-- Elements taken out of a list: what the others keep, and that the one of a key stands at one place
-- where the keys rise.
use Rattle.std.proofs.Common.{ℕ, zero, suc, ◌+◌, ◌<◌, ◌≤◌, ◌≡◌, Bool, true, false, cond, not, ◌||◌, ◌==◌, List, [], ◌∷◌, map, filter, sum_by, length, Some, refl, sym, ◌∙◌, ap, arith, slice_get}
use Rattle.std.specs.List.{AllByRecursion as Each, remove, list_any}
use Rattle.std.proofs.lemmas.List.Sums.{sum_by-cons}
use Rattle.std.proofs.lemmas.Bool.{eqb-true, eq-eqb, ne_eqb}
use Rattle.vale_entry.specs.Laws.{Rise, IsThere}
use Rattle.vale_entry.proofs.Rising.{rise-wider, rise-slice_get}
pub use Rattle.vale_entry.proofs.ListLaws.{sum-remove}

-- an element that stays passed the test
kept_by :
    {X : Type 0} (Q : X → Type 0) (x : X) (xs : List X) (stays : Bool) → (stays ≡ true → Q x)
    → Each Q xs → Each Q (cond stays (x ∷ xs) xs)
kept_by Q x xs true here rest = (here refl, rest)
kept_by Q x xs false here rest = rest

pub each-kept :
    {X : Type 0} (P Q : X → Type 0) (test : X → Bool) → ((x : X) → test x ≡ true → P x → Q x)
    → (xs : List X) → Each P xs
    → Each Q (filter test xs)
each-kept P Q test keeps [] all = tt
each-kept P Q test keeps (x ∷ xs) all =
    kept_by Q x (filter test xs) (test x) (λ t. keeps x t all.0) (each-kept P Q test keeps xs all.1)

pub each-filter :
    {X : Type 0} (P : X → Type 0) (test : X → Bool) (xs : List X) → Each P xs
    → Each P (filter test xs)
each-filter P test xs all = each-kept P P test (λ x t here. here) xs all

rise_by :
    {X : Type 0} (key : X → ℕ) (low : ℕ) (x : X) (xs : List X) (high : ℕ) (stays : Bool)
    → low < key x → Rise (key x) (map key xs) high
    → Rise low (map key (cond stays (x ∷ xs) xs)) high
rise_by key low x xs high true first r = (first, r)
rise_by key low x xs high false first r =
    rise-wider low (key x) (map key xs) high high (omega arith) (omega arith) r

pub rise-filter :
    {X : Type 0} (key : X → ℕ) (test : X → Bool) (low : ℕ) (xs : List X) (high : ℕ)
    → Rise low (map key xs) high
    → Rise low (map key (filter test xs)) high
rise-filter key test low [] high r = r
rise-filter key test low (x ∷ xs) high r =
    rise_by key low x (filter test xs) high (test x) r.0 (rise-filter key test (key x) xs high r.1)

sum_less_by :
    {X : Type 0} (f : X → ℕ) (x : X) (xs : List X) (all : ℕ) (stays : Bool) → sum_by f xs ≤ all
    → sum_by f (cond stays (x ∷ xs) xs) ≤ f x + all
sum_less_by f x xs all true less = let sum = sum_by-cons f x xs in omega arith
sum_less_by f x xs all false less = omega arith

pub sum-filter_less :
    {X : Type 0} (f : X → ℕ) (test : X → Bool) (xs : List X)
    → sum_by f (filter test xs) ≤ sum_by f xs
sum-filter_less f test [] = omega arith
sum-filter_less f test (x ∷ xs) =
    let rest =
    sum_less_by f x (filter test xs) (sum_by f xs) (test x) (sum-filter_less f test xs) in
    let sum = sum_by-cons f x xs in
    omega arith

-- where what goes counts nothing, the sum stays
sum_same_by :
    {X : Type 0} (f : X → ℕ) (x : X) (xs : List X) (all : ℕ) (stays : Bool)
    → (stays ≡ false → f x ≡ 0) → sum_by f xs ≡ all
    → sum_by f (cond stays (x ∷ xs) xs) ≡ f x + all
sum_same_by f x xs all true none same = let sum = sum_by-cons f x xs in omega arith
sum_same_by f x xs all false none same = let here = none refl in omega arith

pub sum-filter_same :
    {X : Type 0} (f : X → ℕ) (test : X → Bool) (xs : List X)
    → Each (λ x. test x ≡ false → f x ≡ 0) xs
    → sum_by f (filter test xs) ≡ sum_by f xs
sum-filter_same f test [] all = refl
sum-filter_same f test (x ∷ xs) all =
    let rest =
    sum_same_by f x (filter test xs) (sum_by f xs) (test x) all.0 (sum-filter_same f test xs all.1)
    in
    let sum = sum_by-cons f x xs in
    omega arith

map_by :
    {X Y : Type 0} (f : X → Y) (x : X) (xs : List X) (stays : Bool)
    → map f (cond stays (x ∷ xs) xs) ≡ cond stays (f x ∷ map f xs) (map f xs)
map_by f x xs true = refl
map_by f x xs false = refl

-- a test of what a map keeps goes through it
pub map-filter :
    {X Y : Type 0} (f : X → Y) (test : Y → Bool) (xs : List X)
    → map f (filter (λ x. test (f x)) xs) ≡ filter test (map f xs)
map-filter f test [] = refl
map-filter f test (x ∷ xs) =
    let rest = map-filter f test xs in
    map_by f x (filter (λ y. test (f y)) xs) (test (f x)) ∙ ap
    (λ ys. cond (test (f x)) (f x ∷ ys) ys) rest

-- Keys that rise.

filter-above_key :
    {X : Type 0} (key : X → ℕ) (k low : ℕ) (xs : List X) (high : ℕ) → k ≤ low
    → Rise low (map key xs) high
    → filter (λ x. not (key x == k)) xs ≡ xs
filter-above_key key k low [] high below r = refl
filter-above_key key k low (x ∷ xs) high below r =
    let first : low < key x = r.0 in
    let miss : (key x == k) ≡ false = ne_eqb (key x) k (λ e. omega arith) in
    let next : k ≤ key x = omega arith in
    rw miss (ap (λ ys. x ∷ ys) (filter-above_key key k (key x) xs high next r.1))

-- what has another key stays, so the element is taken out of its place
pub filter-at_key :
    {X : Type 0} (key : X → ℕ) (low : ℕ) (xs : List X) (high i : ℕ) (x : X)
    → Rise low (map key xs) high → slice_get xs i ≡ Some x
    → filter (λ y. not (key y == key x)) xs ≡ remove xs i
filter-at_key key low [] high i x r e = absurd cc
filter-at_key key low (y ∷ ys) high zero x r e =
    let same : y ≡ x = cc in
    let keys : key y ≡ key x = ap key same in
    let hit : (key y == key x) ≡ true = eq-eqb (key y) (key x) keys in
    rw hit (filter-above_key key (key x) (key y) ys high (omega arith) r.1)
filter-at_key key low (y ∷ ys) high (suc i) x r e =
    let above = rise-slice_get key (key y) ys high i x r.1 e in
    let miss : (key y == key x) ≡ false = ne_eqb (key y) (key x) (λ k. omega arith) in
    rw miss (ap (λ zs. y ∷ zs) (filter-at_key key (key y) ys high i x r.1 e))

-- Numbers that rise.

pub rise-kept :
    (test : ℕ → Bool) (low : ℕ) (ns : List ℕ) (high : ℕ) → Rise low ns high
    → Rise low (filter test ns) high
rise-kept test low [] high r = r
rise-kept test low (n ∷ ns) high r = kept (test n) (rise-kept test n ns high r.1)
  where
    kept :
        (stays : Bool) → Rise n (filter test ns) high
        → Rise low (cond stays (n ∷ filter test ns) (filter test ns)) high
    kept true rest = (r.0, rest)
    kept false rest =
        let first : low < n = r.0 in
        rise-wider low n (filter test ns) high high (omega arith) (omega arith) rest

rise-numbers :
    (low : ℕ) (ns : List ℕ) (high : ℕ) → Rise low ns high → Rise low (map (λ (n : ℕ). n) ns) high
rise-numbers low [] high r = r
rise-numbers low (n ∷ ns) high r = (r.0, rise-numbers n ns high r.1)

-- where a number stands
pub record NumberPlace (ns : List ℕ) (k : ℕ) : Type 0 where
  pub place : ℕ
  pub here : slice_get ns place ≡ Some k

number_place_by :
    (n : ℕ) (ns : List ℕ) (k : ℕ) (hit : Bool) → (n == k) ≡ hit → (IsThere ns k → NumberPlace ns k)
    → (hit || list_any (λ (s : ℕ). s == k) ns) ≡ true
    → NumberPlace (n ∷ ns) k
number_place_by n ns k true t later e =
    record { place = 0; here = ap (λ (m : ℕ). Some m) (eqb-true n k t) }
number_place_by n ns k false t later e =
    let rest = later e in
    record { place = suc rest.place; here = rest.here }

pub number-place : (ns : List ℕ) (k : ℕ) → IsThere ns k → NumberPlace ns k
number-place [] k e = absurd cc
number-place (n ∷ ns) k e = number_place_by n ns k (n == k) refl (number-place ns k) e

-- a number is taken out of its place
pub filter-at_number :
    (ns : List ℕ) (high i k : ℕ) → Rise 0 ns high → slice_get ns i ≡ Some k
    → filter (λ (n : ℕ). not (n == k)) ns ≡ remove ns i
filter-at_number ns high i k r e =
    filter-at_key (λ (n : ℕ). n) 0 ns high i k (rise-numbers 0 ns high r) e

-- another number stays among those that are left
there_by :
    (n : ℕ) (ns : List ℕ) (k gone : ℕ) (hit out : Bool) → (n == k) ≡ hit → (n == gone) ≡ out
    → (k ≡ gone → ⊥)
    → (IsThere ns k → IsThere (filter (λ (s : ℕ). not (s == gone)) ns) k)
    → (hit || list_any (λ (s : ℕ). s == k) ns) ≡ true
    → IsThere
    (cond (not out) (n ∷ filter (λ (s : ℕ). not (s == gone)) ns)
    (filter (λ (s : ℕ). not (s == gone)) ns)) k
there_by n ns k gone true true t o other later e =
    absurd (other (sym (eqb-true n k t) ∙ eqb-true n gone o))
there_by n ns k gone true false t o other later e = rw t refl
there_by n ns k gone false true t o other later e = later e
there_by n ns k gone false false t o other later e = rw t (later e)

pub there-filter :
    (ns : List ℕ) (k gone : ℕ) → (k ≡ gone → ⊥) → IsThere ns k
    → IsThere (filter (λ (s : ℕ). not (s == gone)) ns) k
there-filter [] k gone other e = e
there-filter (n ∷ ns) k gone other e =
    there_by n ns k gone (n == k) (n == gone) refl refl other (there-filter ns k gone other) e

pub length-remove_at :
    {X : Type 0} (xs : List X) (i : ℕ) (x : X) → slice_get xs i ≡ Some x
    → length (remove xs i) + 1 ≡ length xs
length-remove_at [] i x e = absurd cc
length-remove_at (y ∷ ys) zero x e = omega arith
length-remove_at (y ∷ ys) (suc i) x e = let rest = length-remove_at ys i x e in omega arith
