-- Numbers that rise strictly, and lists of records whose keys do: a change at one key is a change
-- at one place.
use Rattle.std.proofs.Common.{ℕ, zero, suc, ◌<◌, ◌≤◌, ◌≡◌, Bool, true, false, ◌==◌, List, [], ◌∷◌, ◌++◌, map, drop, slice_get, slice_set, Some, find, refl, ◌∙◌, ap, arith, ◌+◌, take, length, get_or}
use Rattle.std.specs.List.{AllByRecursion as Each, range_with_len}
use Rattle.std.proofs.lemmas.Bool.{ne_eqb}
use Rattle.vale_entry.proofs.Each.{each-weaker, each-drop}
use Rattle.vale_entry.specs.Laws.{Rise}

pub rise-bounds : (low : ℕ) (ns : List ℕ) (high : ℕ) → Rise low ns high → low ≤ high
rise-bounds low [] high r = r
rise-bounds low (n ∷ ns) high r =
    let first : low < n = r.0 in
    let rest : n ≤ high = rise-bounds n ns high r.1 in
    omega arith

pub rise-within :
    {X : Type 0} (key : X → ℕ) (low : ℕ) (xs : List X) (high : ℕ) → Rise low (map key xs) high
    → Each (λ x. key x ≤ high) xs
rise-within key low [] high r = tt
rise-within key low (x ∷ xs) high r =
    (rise-bounds (key x) (map key xs) high r.1, rise-within key (key x) xs high r.1)

-- from a lower bound, and up to a higher one
pub rise-wider :
    (lower low : ℕ) (ns : List ℕ) (high higher : ℕ) → lower ≤ low → high ≤ higher → Rise low ns high
    → Rise lower ns higher
rise-wider lower low [] high higher below above r = let all : low ≤ high = r in omega arith
rise-wider lower low (n ∷ ns) high higher below above r =
    let first : low < n = r.0 in
    let same : n ≤ n = omega arith in
    (omega arith, rise-wider n n ns high higher same above r.1)

pub rise-push :
    (low : ℕ) (ns : List ℕ) (high n : ℕ) → high < n → Rise low ns high → Rise low (ns ++ n ∷ []) n
rise-push low [] high n above r = let all : low ≤ high = r in (omega arith, omega arith)
rise-push low (m ∷ ms) high n above r = (r.0, rise-push m ms high n above r.1)

-- an element's key is between the bounds
pub rise-slice_get : {X : Type 0} (key : X → ℕ) (low : ℕ) (xs : List X) (high i : ℕ) (x : X)
    → Rise low (map key xs) high → slice_get xs i ≡ Some x → (low < key x) × (key x ≤ high)
rise-slice_get key low [] high i x r e = cc
rise-slice_get key low (y ∷ ys) high zero x r e =
    let same : y ≡ x = cc in
    let first : low < key y = r.0 in
    let rest : key y ≤ high = rise-bounds (key y) (map key ys) high r.1 in
    let keys : key y ≡ key x = ap key same in
    (omega arith, omega arith)
rise-slice_get key low (y ∷ ys) high (suc i) x r e =
    let rest = rise-slice_get key (key y) ys high i x r.1 e in
    let first : low < key y = r.0 in
    (omega arith, rest.1)

-- each number is above the lower bound, and above those before it
rise-at : (low : ℕ) (ns : List ℕ) (high j d : ℕ) → Rise low ns high → j < length ns → low < get_or ns j d
rise-at low [] high j d rise within = absurd (omega (arith, within))
rise-at low (n ∷ ns) high zero d rise within = rise.0
rise-at low (n ∷ ns) high (suc j) d rise within =
    let rest = rise-at n ns high j d rise.1 (omega (arith, within)) in
    let first : low < n = rise.0 in
    omega (arith, first, rest)

pub rise-increases : (low : ℕ) (ns : List ℕ) (high i j d : ℕ) → Rise low ns high → i < j → j < length ns → get_or ns i d < get_or ns j d
rise-increases low [] high i j d rise less within = absurd (omega (arith, within))
rise-increases low (n ∷ ns) high i zero d rise less within = absurd (omega (arith, less))
rise-increases low (n ∷ ns) high zero (suc j) d rise less within = rise-at n ns high j d rise.1 (omega (arith, within))
rise-increases low (n ∷ ns) high (suc i) (suc j) d rise less within = rise-increases n ns high i j d rise.1 (omega (arith, less)) (omega (arith, within))

-- what changes one key only leaves elements of higher keys as they are
map-above_key : {X : Type 0} (key : X → ℕ) (change : X → X) (k low : ℕ) (xs : List X) (high : ℕ)
    → k ≤ low → Rise low (map key xs) high → ((y : X) → (key y == k) ≡ false → change y ≡ y)
    → map change xs ≡ xs
map-above_key key change k low [] high below r keeps = refl
map-above_key key change k low (y ∷ ys) high below r keeps =
    let first : low < key y = r.0 in
    let here : change y ≡ y = keeps y (ne_eqb (key y) k (λ e. omega arith)) in
    let next : k ≤ key y = omega arith in
    let rest : map change ys ≡ ys = map-above_key key change k (key y) ys high next r.1 keeps in
    cc

-- a change at one element's key is a change at its place
pub map-at_key :
    {X : Type 0} (key : X → ℕ) (change : X → X) (low : ℕ) (xs : List X) (high i : ℕ) (x : X)
    → Rise low (map key xs) high → slice_get xs i ≡ Some x
    → ((y : X) → (key y == key x) ≡ false → change y ≡ y)
    → map change xs ≡ slice_set xs i (change x)
map-at_key key change low [] high i x r e keeps = refl
map-at_key key change low (y ∷ ys) high zero x r e keeps =
    let same : y ≡ x = cc in
    let below : key x ≤ key y = rw same (omega arith) in
    let rest : map change ys ≡ ys =
    map-above_key key change (key x) (key y) ys high below r.1 keeps in
    let here : change y ≡ change x = ap change same in
    cc
map-at_key key change low (y ∷ ys) high (suc i) x r e keeps =
    let first : low < key y = r.0 in
    let above = rise-slice_get key (key y) ys high i x r.1 e in
    let here : change y ≡ y = keeps y (ne_eqb (key y) (key x) (λ k. omega arith)) in
    let rest = map-at_key key change (key y) ys high i x r.1 e keeps in
    cc

-- a test that only the element's key passes finds the element
pub find-at_key :
    {X : Type 0} (key : X → ℕ) (test : X → Bool) (low : ℕ) (xs : List X) (high i : ℕ) (x : X)
    → Rise low (map key xs) high → slice_get xs i ≡ Some x → test x ≡ true
    → ((y : X) → (key y == key x) ≡ false → test y ≡ false)
    → find test xs ≡ Some x
find-at_key key test low [] high i x r e hit others = cc
find-at_key key test low (y ∷ ys) high zero x r e hit others =
    let same : y ≡ x = cc in
    let here : test y ≡ true = ap test same ∙ hit in
    rw here cc
find-at_key key test low (y ∷ ys) high (suc i) x r e hit others =
    let above = rise-slice_get key (key y) ys high i x r.1 e in
    let miss : test y ≡ false = others y (ne_eqb (key y) (key x) (λ k. omega arith)) in
    rw miss (find-at_key key test (key y) ys high i x r.1 e hit others)

pub rise-drop : (low n : ℕ) (ns : List ℕ) (high : ℕ) → Rise low ns high → Rise low (drop n ns) high
rise-drop low zero ns high r = r
rise-drop low (suc n) [] high r = r
rise-drop low (suc n) (m ∷ ms) high r =
    let first : low < m = r.0 in
    let below : low ≤ m = omega arith in
    let same : high ≤ high = omega arith in
    rise-wider low m (drop n ms) high high below same (rise-drop m n ms high r.1)

pub rise-range : (low count : ℕ) → Rise low (range_with_len (low + 1) count) (count + low)
rise-range low zero = omega arith
rise-range low (suc count) =
    let next : suc count + low ≡ count + (low + 1) = omega arith in
    (omega arith, rw next (rise-range (low + 1) count))

pub rise-above :
    (low : ℕ) (ns : List ℕ) (high : ℕ) → Rise low ns high → Each (λ (n : ℕ). low < n) ns
rise-above low [] high r = tt
rise-above low (n ∷ ns) high r =
    let first : low < n = r.0 in (
      first,
      each-weaker (λ (m : ℕ). n < m) (λ (m : ℕ). low < m) (λ m above. omega arith) ns
          (rise-above n ns high r.1),
    )

-- what is taken from the front is smaller than what is left
pub rise-cut :
    (count low : ℕ) (ns : List ℕ) (high : ℕ) → Rise low ns high
    → Each (λ (n : ℕ). Each (λ (m : ℕ). n < m) (drop count ns)) (take count ns)
rise-cut zero low ns high r = tt
rise-cut (suc count) low [] high r = tt
rise-cut (suc count) low (n ∷ ns) high r =
    (each-drop (λ (m : ℕ). n < m) count ns (rise-above n ns high r.1), rise-cut count n ns high r.1)
