-- How often a buffer stands in a list.
use Rattle.std.proofs.Common.{ℕ, zero, suc, ◌+◌, ◌<◌, ◌≤◌, ◌≡◌, Bool, true, false, cond, not, ◌&&◌, ◌||◌, nat_le, ◌==◌, List, [], ◌∷◌, ◌++◌, length, sum_by, count_by, refl, sym, subst, arith, ◌⊎◌, inl, inr}
use Rattle.std.specs.List.{list_all, range_with_len}
use Rattle.std.proofs.lemmas.List.Sums.{sum_by-cons, sum_by-append, length-filter}
use Rattle.std.proofs.lemmas.List.Filters.{length-filter_both}
use Rattle.std.proofs.lemmas.Bool.{and_parts, not-true, eqb-true, eqb-false, eq-eqb, ne_eqb, leb-true, leb-false, cases_lt}
use Rattle.vale_entry.specs.Holdings.{contains, buffers_without, are_distinct, is_buffer_index}

abbrev pub count_of : ℕ → List ℕ → ℕ
count_of b buffers = count_by (λ y. y == b) buffers

abbrev one_if : Bool → ℕ
one_if b = cond b 1 0

pub count_of-cons :
    (b y : ℕ) (ys : List ℕ) → count_of b (y ∷ ys) ≡ cond (y == b) 1 0 + count_of b ys
count_of-cons b y ys = sum_by-cons (λ (x : ℕ). cond (x == b) 1 0) y ys

pub count_of-append :
    (b : ℕ) (xs ys : List ℕ) → count_of b (xs ++ ys) ≡ count_of b xs + count_of b ys
count_of-append b xs ys = sum_by-append (λ (x : ℕ). cond (x == b) 1 0) xs ys

-- what stands in a list stands there at least once, and what doesn't never
contains-count_by :
    (b y : ℕ) (ys : List ℕ) (here : Bool) → (contains b ys ≡ true → 1 ≤ count_of b ys)
    → (here || contains b ys) ≡ true
    → 1 ≤ cond here 1 0 + count_of b ys
contains-count_by b y ys true rest e = omega arith
contains-count_by b y ys false rest e = let more : 1 ≤ count_of b ys = rest e in omega arith

pub contains-count : (b : ℕ) (xs : List ℕ) → contains b xs ≡ true → 1 ≤ count_of b xs
contains-count b [] e = absurd cc
contains-count b (y ∷ ys) e =
    rw (count_of-cons b y ys) (contains-count_by b y ys (y == b) (contains-count b ys) e)

contains-none_by :
    (b : ℕ) (ys : List ℕ) (here : Bool) → (contains b ys ≡ false → count_of b ys ≡ 0)
    → (here || contains b ys) ≡ false
    → cond here 1 0 + count_of b ys ≡ 0
contains-none_by b ys true rest e = absurd cc
contains-none_by b ys false rest e = let none : count_of b ys ≡ 0 = rest e in omega arith

pub contains-none : (b : ℕ) (xs : List ℕ) → contains b xs ≡ false → count_of b xs ≡ 0
contains-none b [] e = refl
contains-none b (y ∷ ys) e =
    rw (count_of-cons b y ys) (contains-none_by b ys (y == b) (contains-none b ys) e)

-- the buffers left of a list
without_cons :
    (b y : ℕ) (gone rest : List ℕ) (here kept : Bool) → (y == b) ≡ here → contains y gone ≡ kept
    → count_of b (cond (not kept) (y ∷ rest) rest)
    ≡ cond (here && not (contains b gone)) 1 0 + count_of b rest
without_cons b y gone rest true true t k =
    let same : y ≡ b = eqb-true y b t in
    let in' : contains b gone ≡ true = subst (λ (z : ℕ). contains z gone ≡ true) same k in
    rw in' (omega arith)
without_cons b y gone rest true false t k =
    let same : y ≡ b = eqb-true y b t in
    let out : contains b gone ≡ false = subst (λ (z : ℕ). contains z gone ≡ false) same k in
    let front = count_of-cons b y rest in
    rw (front, t, out) refl
without_cons b y gone rest false true t k = omega arith
without_cons b y gone rest false false t k = rw (count_of-cons b y rest, t) refl

without_step :
    (here there : Bool) (old : ℕ)
    → cond (here && not there) 1 0 + cond there 0 old ≡ cond there 0 (cond here 1 0 + old)
without_step true true old = omega arith
without_step true false old = refl
without_step false true old = omega arith
without_step false false old = refl

nothing_by : (there : Bool) → ◌≡◌ {A = ℕ} 0 (cond there 0 0)
nothing_by true = refl
nothing_by false = refl

pub count-without :
    (b : ℕ) (gone xs : List ℕ)
    → count_of b (buffers_without gone xs) ≡ cond (contains b gone) 0 (count_of b xs)
count-without b gone [] = nothing_by (contains b gone)
count-without b gone (y ∷ ys) =
    let rest = count-without b gone ys in
    let front =
    without_cons b y gone (buffers_without gone ys) (y == b) (contains y gone) refl refl in
    let step = without_step (y == b) (contains b gone) (count_of b ys) in
    let whole = count_of-cons b y ys in
    rw (whole, front, rest) step

-- a list of distinct buffers has each once
distinct_by :
    (b y : ℕ) (ys : List ℕ) (here : Bool) → (y == b) ≡ here → contains y ys ≡ false
    → count_of b ys ≡ cond (contains b ys) 1 0
    → cond here 1 0 + count_of b ys ≡ cond (here || contains b ys) 1 0
distinct_by b y ys true t none rest =
    let same : y ≡ b = eqb-true y b t in
    let out : contains b ys ≡ false = subst (λ (z : ℕ). contains z ys ≡ false) same none in
    rw (rest, out) refl
distinct_by b y ys false t none rest = rw rest (omega arith)

pub count-distinct :
    (b : ℕ) (xs : List ℕ) → are_distinct xs ≡ true → count_of b xs ≡ cond (contains b xs) 1 0
count-distinct b [] d = refl
count-distinct b (y ∷ ys) d =
    let parts = and_parts (not (contains y ys)) (are_distinct ys) d in
    let none : contains y ys ≡ false = not-true (contains y ys) parts.0 in
    rw (count_of-cons b y ys) (distinct_by b y ys (y == b) refl none (count-distinct b ys parts.1))

-- taking away distinct buffers of a list that has no buffer twice
away_by :
    (b : ℕ) (gone xs : List ℕ) (there : Bool) → contains b gone ≡ there → are_distinct gone ≡ true
    → (there ≡ true → contains b xs ≡ true)
    → count_of b xs ≤ 1
    → count_of b (buffers_without gone xs) + count_of b gone ≡ count_of b xs
away_by b gone xs true t d within once =
    let least = contains-count b xs (within refl) in
    let left = count-without b gone xs in
    let taken = count-distinct b gone d in
    rw (left, taken, t) (omega arith)
away_by b gone xs false t d within once =
    let left = count-without b gone xs in
    let taken = count-distinct b gone d in
    rw (left, taken, t) (omega arith)

all-contains :
    (b : ℕ) (gone xs : List ℕ) → list_all (λ c. contains c xs) gone ≡ true → contains b gone ≡ true
    → contains b xs ≡ true
all-contains b [] xs all e = absurd cc
all-contains b (y ∷ ys) xs all e =
    let parts = and_parts (contains y xs) (list_all (λ c. contains c xs) ys) all in
    all_by (y == b) refl parts.0 (all-contains b ys xs parts.1) e
  where
    all_by :
        (here : Bool) → (y == b) ≡ here → contains y xs ≡ true
        → (contains b ys ≡ true → contains b xs ≡ true) → (here || contains b ys) ≡ true
        → contains b xs ≡ true
    all_by true t first rest e = subst (λ (z : ℕ). contains z xs ≡ true) (eqb-true y b t) first
    all_by false t first rest e = rest e

pub count-away :
    (b : ℕ) (gone xs : List ℕ) → are_distinct gone ≡ true
    → list_all (λ c. contains c xs) gone ≡ true → count_of b xs ≤ 1
    → count_of b (buffers_without gone xs) + count_of b gone ≡ count_of b xs
count-away b gone xs d all once =
    away_by b gone xs (contains b gone) refl d (all-contains b gone xs all) once

-- and how many are left
pub sum-add :
    {X : Type 0} (f g h : X → ℕ) → ((x : X) → h x ≡ f x + g x) → (xs : List X)
    → sum_by h xs ≡ sum_by f xs + sum_by g xs
sum-add f g h adds [] = refl
sum-add f g h adds (x ∷ xs) =
    let here = adds x in
    let rest = sum-add f g h adds xs in
    let fs = sum_by-cons f x xs in
    let gs = sum_by-cons g x xs in
    let hs = sum_by-cons h x xs in
    omega arith

apart_by : (b y : ℕ) (bs : List ℕ) (here : Bool) → (b == y) ≡ here → contains b bs ≡ false
    → cond (here || contains y bs) 1 0 ≡ cond (y == b) 1 0 + cond (contains y bs) 1 0
apart_by b y bs true t none =
    let same : b ≡ y = eqb-true b y t in
    let out : contains y bs ≡ false = subst (λ (z : ℕ). contains z bs ≡ false) same none in
    rw (out, eq-eqb y b (sym same)) refl
apart_by b y bs false t none =
    let other : (y == b) ≡ false = ne_eqb y b (λ e. eqb-false b y t (sym e)) in
    rw other (omega arith)

pub count-contained :
    (gone xs : List ℕ) → are_distinct gone ≡ true → list_all (λ c. contains c xs) gone ≡ true
    → ((b : ℕ) → count_of b xs ≤ 1)
    → count_by (λ y. contains y gone) xs ≡ length gone
count-contained [] xs d all once = none xs
  where
    none : (ys : List ℕ) → count_by (λ y. contains y []) ys ≡ 0
    none [] = refl
    none (y ∷ ys) =
        let rest = none ys in let sum = sum_by-cons (λ (z : ℕ). cond (contains z []) 1 0) y ys in
        omega arith
count-contained (b ∷ bs) xs d all once =
    let parts = and_parts (not (contains b bs)) (are_distinct bs) d in
    let none : contains b bs ≡ false = not-true (contains b bs) parts.0 in
    let alls = and_parts (contains b xs) (list_all (λ c. contains c xs) bs) all in
    let rest = count-contained bs xs parts.1 alls.1 once in
    let least = contains-count b xs alls.0 in
    let most = once b in
    let sum = sum-add (λ (y : ℕ). cond (y == b) 1 0) (λ (y : ℕ). cond (contains y bs) 1 0)
    (λ (y : ℕ). cond (contains y (b ∷ bs)) 1 0)
    (λ y. apart_by b y bs (b == y) refl none) xs in
    omega arith

pub length-away :
    (gone xs : List ℕ) → are_distinct gone ≡ true → list_all (λ c. contains c xs) gone ≡ true
    → ((b : ℕ) → count_of b xs ≤ 1)
    → length (buffers_without gone xs) + length gone ≡ length xs
length-away gone xs d all once =
    let both =
    length-filter_both (λ (y : ℕ). contains y gone) (λ (y : ℕ). not (contains y gone)) (λ y. refl)
    xs in
    let taken = length-filter (λ (y : ℕ). contains y gone) xs in
    let count = count-contained gone xs d all once in
    omega arith

-- the buffers of a fresh pool
range-below : (b first count : ℕ) → b < first → count_of b (range_with_len first count) ≡ 0
range-below b first zero below = refl
range-below b first (suc count) below =
    let rest = range-below b (first + 1) count (omega arith) in
    let miss : (first == b) ≡ false = ne_eqb first b (λ e. omega arith) in
    rw (count_of-cons b first (range_with_len (first + 1) count), miss) (omega arith)

range-above : (b first count : ℕ) → first + count ≤ b → count_of b (range_with_len first count) ≡ 0
range-above b first zero above = refl
range-above b first (suc count) above =
    let rest = range-above b (first + 1) count (omega arith) in
    let miss : (first == b) ≡ false = ne_eqb first b (λ e. omega arith) in
    rw (count_of-cons b first (range_with_len (first + 1) count), miss) (omega arith)

range-within :
    (b first count : ℕ) → first ≤ b → b < first + count
    → count_of b (range_with_len first count) ≡ 1
range-within b first zero low high = absurd (omega arith)
range-within b first (suc count) low high =
    within_by (range-within b (first + 1) count) (cases_lt first b)
  where
    within_by :
        (first + 1 ≤ b → b < first + 1 + count → count_of b (range_with_len (first + 1) count) ≡ 1)
        → (first < b) ⊎ (b ≤ first)
        → count_of b (range_with_len first (suc count)) ≡ 1
    within_by later (inl above) =
        let rest = later (omega arith) (omega arith) in
        let miss : (first == b) ≡ false = ne_eqb first b (λ e. omega arith) in
        rw (count_of-cons b first (range_with_len (first + 1) count), miss) (omega arith)
    within_by later (inr below) =
        let rest = range-below b (first + 1) count (omega arith) in
        let hit : (first == b) ≡ true = eq-eqb first b (omega arith) in
        rw (count_of-cons b first (range_with_len (first + 1) count), hit) (omega arith)

buffer_by : (pool b : ℕ) (low high : Bool) → nat_le 2 b ≡ low → nat_le b (pool + 1) ≡ high
    → count_of b (range_with_len 2 pool) ≡ cond (low && high) 1 0
buffer_by pool b false high l h = range-below b 2 pool (leb-false 2 b l)
buffer_by pool b true false l h =
    let above = leb-false b (pool + 1) h in
    range-above b 2 pool (omega arith)
buffer_by pool b true true l h =
    let below = leb-true b (pool + 1) h in
    range-within b 2 pool (leb-true 2 b l) (omega arith)

-- each buffer of the pool stands once among those of a fresh pool
pub count-pool :
    (pool b : ℕ) → count_of b (range_with_len 2 pool) ≡ cond (is_buffer_index pool b) 1 0
count-pool pool b = buffer_by pool b (nat_le 2 b) (nat_le b (pool + 1)) refl refl
