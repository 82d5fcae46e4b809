-- Buffers that become free again: each is put at its place among the free ones, so these still
-- rise.
use Rattle.std.proofs.Common.{ℕ, suc, ◌+◌, ◌<◌, ◌≤◌, ◌≡◌, Bool, true, false, cond, nat_lt, nat_le, ◌==◌, List, [], ◌∷◌, ◌++◌, length, take, drop, refl, sym, ◌∙◌, ap, subst, arith, append_assoc}
use Rattle.std.specs.List.{AllByRecursion as Each}
use Rattle.std.proofs.lemmas.List.{take-append-drop}
use Rattle.std.proofs.lemmas.Bool.{and_parts, eqb-false, eq-eqb, ltb-true, ltb-false, leb-true, lt-ltb, le-ltb}
use Rattle.nm_types.proofs.Lists.{each-back}
use Rattle.vale_entry.specs.Holdings.{with_free, all_with_free, is_buffer_index}
use Rattle.vale_entry.specs.Laws.{Rise, FreeBuffersReturn}
use Rattle.vale_entry.proofs.Rising.{rise-above}
use Rattle.vale_entry.proofs.Counting.{count_of, count_of-cons}

with_by :
    (b c first : ℕ) (free more : List ℕ) (below : Bool) → count_of b more ≡ count_of b (c ∷ free)
    → count_of b (cond below (c ∷ first ∷ free) (first ∷ more)) ≡ count_of b (c ∷ first ∷ free)
with_by b c first free more true rest = refl
with_by b c first free more false rest =
    let one = count_of-cons b first more in
    let two = count_of-cons b c (first ∷ free) in
    let three = count_of-cons b first free in
    let four = count_of-cons b c free in
    omega arith

pub count-with_free :
    (b c : ℕ) (free : List ℕ) → count_of b (with_free c free) ≡ count_of b (c ∷ free)
count-with_free b c [] = refl
count-with_free b c (first ∷ free) =
    with_by b c first free (with_free c free) (nat_lt c first) (count-with_free b c free)

pub count-all_with_free :
    (b : ℕ) (bs free : List ℕ)
    → count_of b (all_with_free bs free) ≡ count_of b bs + count_of b free
count-all_with_free b [] free = omega arith
count-all_with_free b (c ∷ cs) free =
    let rest = count-all_with_free b cs (with_free c free) in
    let more = count-with_free b c free in
    let one = count_of-cons b c free in
    let two = count_of-cons b c cs in
    omega arith

length_by : (c first : ℕ) (free more : List ℕ) (below : Bool) → length more ≡ suc (length free)
    → length (cond below (c ∷ first ∷ free) (first ∷ more)) ≡ suc (length (first ∷ free))
length_by c first free more true rest = refl
length_by c first free more false rest = omega arith

length-with_free : (c : ℕ) (free : List ℕ) → length (with_free c free) ≡ suc (length free)
length-with_free c [] = refl
length-with_free c (first ∷ free) =
    length_by c first free (with_free c free) (nat_lt c first) (length-with_free c free)

pub length-all_with_free :
    (bs free : List ℕ) → length (all_with_free bs free) ≡ length bs + length free
length-all_with_free [] free = omega arith
length-all_with_free (c ∷ cs) free =
    let rest = length-all_with_free cs (with_free c free) in
    let more = length-with_free c free in
    omega arith

not-first :
    (b n : ℕ) (ns : List ℕ) (hit : Bool) → (n == b) ≡ hit → cond hit 1 0 + count_of b ns ≡ 0
    → (n ≡ b → ⊥) × (count_of b ns ≡ 0)
not-first b n ns true t none = absurd (omega arith)
not-first b n ns false t none = (eqb-false n b t, omega arith)

rise_by :
    (low b n : ℕ) (ns more : List ℕ) (high : ℕ) (below : Bool) → nat_lt b n ≡ below → low < b
    → low < n → Rise n ns high → (n < b → Rise n more high)
    → (n ≡ b → ⊥)
    → Rise low (cond below (b ∷ n ∷ ns) (n ∷ more)) high
rise_by low b n ns more high true t above first r later other = (above, (ltb-true b n t, r))
rise_by low b n ns more high false t above first r later other =
    let least : n ≤ b = ltb-false b n t in
    (first, later (strictly n b least other))
  where
    strictly : (m k : ℕ) → m ≤ k → (m ≡ k → ⊥) → m < k
    strictly m k least other = by_cases (nat_lt m k) refl
      where
        by_cases : (b : Bool) → nat_lt m k ≡ b → m < k
        by_cases true t = ltb-true m k t
        by_cases false t = let most = ltb-false m k t in absurd (other (omega arith))

rise-with_free :
    (low b : ℕ) (free : List ℕ) (high : ℕ) → low < b → b ≤ high → count_of b free ≡ 0
    → Rise low free high
    → Rise low (with_free b free) high
rise-with_free low b [] high above below none r = (above, below)
rise-with_free low b (n ∷ ns) high above below none r =
    let front = count_of-cons b n ns in
    let other = not-first b n ns (n == b) refl (omega arith) in
    rise_by low b n ns (with_free b ns) high (nat_lt b n) refl above r.0 r.1
    (λ past. rise-with_free n b ns high past below other.1 r.1) other.0

-- none of them is free, and none comes twice
pub rise-all_with_free :
    (low : ℕ) (bs free : List ℕ) (high : ℕ) → ((b : ℕ) → 1 ≤ count_of b bs → (low < b) × (b ≤ high))
    → ((b : ℕ) → count_of b bs + count_of b free ≤ 1) → Rise low free high
    → Rise low (all_with_free bs free) high
rise-all_with_free low [] free high within once r = r
rise-all_with_free low (b ∷ bs) free high within once r =
    let mine : count_of b (b ∷ bs) ≡ 1 + count_of b bs =
    rw (count_of-cons b b bs, eq-eqb b b refl) refl in
    let fits = within b (omega arith) in
    let most = once b in
    let none : count_of b free ≡ 0 = omega arith in
    rise-all_with_free low bs (with_free b free) high
    (λ c stands. within c (let front = count_of-cons c b bs in omega arith))
    (λ c.
    let front = count_of-cons c b bs in
    let more = count-with_free c b free in
    let freed = count_of-cons c b free in
    let few = once c in
    omega arith) (rise-with_free low b free high fits.0 fits.1 none r)

-- what is held is a buffer of the pool
pub held-bounds :
    (pool b n : ℕ) → n ≡ cond (is_buffer_index pool b) 1 0 → 1 ≤ n → (1 < b) × (b ≤ pool + 1)
held-bounds pool b n parted some = by_test (is_buffer_index pool b) refl parted
  where
    by_test : (is : Bool) → is_buffer_index pool b ≡ is → n ≡ cond is 1 0 → (1 < b) × (b ≤ pool + 1)
    by_test false t e = absurd (omega arith)
    by_test true t e =
        let parts = and_parts (nat_le 2 b) (nat_le b (pool + 1)) t in
        (leb-true 2 b parts.0, leb-true b (pool + 1) parts.1)

-- What was taken from the front of the free buffers goes back to its place.

rise-around :
    (low : ℕ) (front : List ℕ) (b : ℕ) (more : List ℕ) (high : ℕ)
    → Rise low (front ++ b ∷ more) high
    → Each (λ (a : ℕ). a < b) front × Each (λ (c : ℕ). b < c) more
rise-around low [] b more high r = (tt, rise-above b more high r.1)
rise-around low (a ∷ front) b more high r =
    let later =
    each-back (λ (n : ℕ). a < n) front (b ∷ more) (rise-above a (front ++ b ∷ more) high r.1) in
    let rest = rise-around a front b more high r.1 in
    ((later.0, rest.0), rest.1)

with_free-between :
    (b : ℕ) (front rest : List ℕ) → Each (λ (a : ℕ). a < b) front → Each (λ (c : ℕ). b < c) rest
    → with_free b (front ++ rest) ≡ front ++ b ∷ rest
with_free-between b [] [] below above = refl
with_free-between b [] (c ∷ rest) below above = rw (lt-ltb b c above.0) refl
with_free-between b (a ∷ front) rest below above =
    let less : a < b = below.0 in
    let past : nat_lt b a ≡ false = le-ltb b a (omega (arith, less)) in
    rw past (ap (λ (xs : List ℕ). a ∷ xs) (with_free-between b front rest below.1 above))

back-between : (low : ℕ) (front bs rest : List ℕ) (high : ℕ) → Rise low (front ++ (bs ++ rest)) high
    → all_with_free bs (front ++ rest) ≡ front ++ (bs ++ rest)
back-between low front [] rest high r = refl
back-between low front (b ∷ bs) rest high r =
    let around = rise-around low front b (bs ++ rest) high r in
    let here : with_free b (front ++ rest) ≡ (front ++ b ∷ []) ++ rest =
    with_free-between b front rest around.0 (each-back (λ (c : ℕ). b < c) bs rest around.1) ∙ sym
    (append_assoc front (b ∷ []) rest) in
    let rises : Rise low ((front ++ b ∷ []) ++ (bs ++ rest)) high =
    subst (λ (xs : List ℕ). Rise low xs high) (sym (append_assoc front (b ∷ []) (bs ++ rest))) r in
    ap (all_with_free bs) here
    ∙
    (back-between low (front ++ b ∷ []) bs rest high rises ∙ append_assoc front (b ∷ []) (bs ++ rest))

pub free-returns : FreeBuffersReturn
free-returns low high n free r =
    let whole : take n free ++ drop n free ≡ free = take-append-drop n free in
    back-between low [] (take n free) (drop n free) high
    (subst (λ (xs : List ℕ). Rise low xs high) (sym whole) r) ∙ whole
