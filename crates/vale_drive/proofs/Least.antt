-- The smallest of numbers, and numbers that are read of the elements of a list.
use Rattle.std.proofs.Common.{ℕ, zero, suc, ◌≡◌, ◌≤◌, ◌==◌, ◌||◌, Bool, true, false, min, List, [], ◌∷◌, filter_map, slice_get, Option, Some, None, refl, sym, ◌∙◌, ap, arith}
use Rattle.std.specs.Prelude.{fold}
use Rattle.std.proofs.lemmas.Bool.{eqb-true, eqb-false, eq-eqb}
use Rattle.std.specs.List.{AllByRecursion as Each, cons_option}
use Rattle.nm_types.proofs.Tests.{or_true}
use Rattle.vale_entry.specs.Holdings.{contains}
use Rattle.vale_drive.specs.Winding.{least}

-- ---- the smallest

record IsLeast (start : ℕ) (ns : List ℕ) (m : ℕ) : Type 0 where
  low : m ≤ start
  most : (n : ℕ) → contains n ns ≡ true → m ≤ n
  there : ((m == start) || contains m ns) ≡ true

least_by : (start : ℕ) (ns : List ℕ) → IsLeast start ns (fold min start ns)
least_by start [] = record { low = omega arith; most = λ n e. absurd cc; there = ap (λ (t : Bool). t || false) (eq-eqb start start refl) }
least_by start (n ∷ ns) =
    let rest = least_by (min start n) ns in
    let low = rest.low in
    record {
      low = omega (arith, low);
      most = λ k e. most-by k (n == k) refl e rest;
      there = there-by (fold min (min start n) ns) rest.there;
    }
  where
    most-by : (k : ℕ) (t : Bool) → (n == k) ≡ t → (t || contains k ns) ≡ true → IsLeast (min start n) ns (fold min (min start n) ns) → fold min (min start n) ns ≤ k
    most-by k true is e r = let same = eqb-true n k is in let low = r.low in omega (arith, same, low)
    most-by k false is e r = r.most k e

    there-by : (m : ℕ) → ((m == min start n) || contains m ns) ≡ true → ((m == start) || ((n == m) || contains m ns)) ≡ true
    there-by m e = by (m == min start n) refl e
      where
        by : (t : Bool) → (m == min start n) ≡ t → (t || contains m ns) ≡ true → ((m == start) || ((n == m) || contains m ns)) ≡ true
        by false is e' = ap (λ (u : Bool). (m == start) || ((n == m) || u)) e' ∙ (ap (λ (u : Bool). (m == start) || u) (or_true (n == m)) ∙ or_true (m == start))
        by true is e' = at (m == start) refl (n == m) refl
          where
            at : (u : Bool) → (m == start) ≡ u → (v : Bool) → (n == m) ≡ v → (u || (v || contains m ns)) ≡ true
            at true p v q = refl
            at false p true q = refl
            at false p false q =
                let same = eqb-true m (min start n) is in
                let one = eqb-false m start p in
                let two = eqb-false n m q in
                absurd (omega (arith, same, one, two))

-- one of these numbers is no greater
pub record Below (n : ℕ) (ns : List ℕ) : Type 0 where
  pub number : ℕ
  pub few : number ≤ n
  pub there : contains number ns ≡ true

least-there : (n : ℕ) (ns : List ℕ) → contains (fold min n ns) (n ∷ ns) ≡ true
least-there n ns = turned (fold min n ns) (least_by n ns).there
  where
    turned : (m : ℕ) → ((m == n) || contains m ns) ≡ true → ((n == m) || contains m ns) ≡ true
    turned m e = by (m == n) refl e
      where
        by : (t : Bool) → (m == n) ≡ t → (t || contains m ns) ≡ true → ((n == m) || contains m ns) ≡ true
        by true is e' = ap (λ (u : Bool). u || contains m ns) (eq-eqb n m (sym (eqb-true m n is)))
        by false is e' = ap (λ (u : Bool). (n == m) || u) e' ∙ or_true (n == m)

least-most : (n : ℕ) (ns : List ℕ) (k : ℕ) → contains k (n ∷ ns) ≡ true → fold min n ns ≤ k
least-most n ns k e = by (n == k) refl e (least_by n ns)
  where
    by : (t : Bool) → (n == k) ≡ t → (t || contains k ns) ≡ true → IsLeast n ns (fold min n ns) → fold min n ns ≤ k
    by true is e' r = let same = eqb-true n k is in let low = r.low in omega (arith, same, low)
    by false is e' r = r.most k e'

pub least-same : (ms ns : List ℕ) → ((n : ℕ) → contains n ms ≡ true → Below n ns) → ((n : ℕ) → contains n ns ≡ true → Below n ms) → least ms ≡ least ns
least-same [] [] one two = refl
least-same [] (n ∷ ns) one two = absurd (let b = two (fold min n ns) (least-there n ns) in let e = b.there in cc)
least-same (m ∷ ms) [] one two = absurd (let b = one (fold min m ms) (least-there m ms) in let e = b.there in cc)
least-same (m ∷ ms) (n ∷ ns) one two =
    let a = one (fold min m ms) (least-there m ms) in
    let b = two (fold min n ns) (least-there n ns) in
    let a-low = least-most n ns a.number a.there in
    let b-low = least-most m ms b.number b.there in
    let a-few = a.few in
    let b-few = b.few in
    let same : fold min m ms ≡ fold min n ns = omega (arith, a-low, b-low, a-few, b-few) in
    ap (λ (k : ℕ). Some k) same

pub least-in : (ns : List ℕ) (m : ℕ) → least ns ≡ Some m → contains m ns ≡ true
least-in [] m e = absurd cc
least-in (n ∷ ns) m e = let same : fold min n ns ≡ m = cc in ap (λ (k : ℕ). contains k (n ∷ ns)) (sym same) ∙ least-there n ns

pub least-none : (ns : List ℕ) → least ns ≡ None → ns ≡ []
least-none [] e = refl
least-none (n ∷ ns) e = absurd cc

-- ---- numbers that are read

pub record ReadAt {X : Type 0} (f : X → Option ℕ) (xs : List X) (n : ℕ) : Type 0 where
  pub place : ℕ
  pub it : X
  pub here : slice_get xs place ≡ Some it
  pub is : f it ≡ Some n

read-later : {X : Type 0} (f : X → Option ℕ) (x : X) (xs : List X) (n : ℕ) → ReadAt f xs n → ReadAt f (x ∷ xs) n
read-later f x xs n r = record { place = suc r.place; it = r.it; here = r.here; is = r.is }

pub read-at : {X : Type 0} (f : X → Option ℕ) (xs : List X) (n : ℕ) → contains n (filter_map f xs) ≡ true → ReadAt f xs n
read-at f [] n e = absurd cc
read-at {X} f (x ∷ xs) n e = by (f x) refl e (read-at f xs n)
  where
    by : (o : Option ℕ) → f x ≡ o → contains n (cons_option o (filter_map f xs)) ≡ true → (contains n (filter_map f xs) ≡ true → ReadAt f xs n) → ReadAt f (x ∷ xs) n
    by None is e' rest = read-later f x xs n (rest e')
    by (Some m) is e' rest = at (m == n) refl e'
      where
        at : (t : Bool) → (m == n) ≡ t → (t || contains n (filter_map f xs)) ≡ true → ReadAt f (x ∷ xs) n
        at true t e'' = record { place = zero; it = x; here = refl; is = is ∙ ap (λ (k : ℕ). Some k) (eqb-true m n t) }
        at false t e'' = read-later f x xs n (rest e'')

pub at-read : {X : Type 0} (f : X → Option ℕ) (xs : List X) (place : ℕ) (x : X) (n : ℕ) → slice_get xs place ≡ Some x → f x ≡ Some n → contains n (filter_map f xs) ≡ true
at-read f [] place x n here is = absurd cc
at-read f (y ∷ ys) zero x n here is =
    let same : y ≡ x = cc in
    ap (λ (o : Option ℕ). contains n (cons_option o (filter_map f ys))) (ap f same ∙ is) ∙ ap (λ (t : Bool). t || contains n (filter_map f ys)) (eq-eqb n n refl)
at-read f (y ∷ ys) (suc place) x n here is = by (f y) (at-read f ys place x n here is)
  where
    by : (o : Option ℕ) → contains n (filter_map f ys) ≡ true → contains n (cons_option o (filter_map f ys)) ≡ true
    by None e = e
    by (Some m) e = ap (λ (t : Bool). (m == n) || t) e ∙ or_true (m == n)

pub none-read : {X : Type 0} (f : X → Option ℕ) (xs : List X) → filter_map f xs ≡ [] → Each (λ x. f x ≡ None) xs
none-read f [] e = tt
none-read f (x ∷ xs) e = by (f x) refl e (none-read f xs)
  where
    by : (o : Option ℕ) → f x ≡ o → cons_option o (filter_map f xs) ≡ [] → (filter_map f xs ≡ [] → Each (λ x. f x ≡ None) xs) → (f x ≡ None) × Each (λ x. f x ≡ None) xs
    by None is e' rest = (is, rest e')
    by (Some n) is e' rest = absurd cc

pub read-none : {X : Type 0} (f : X → Option ℕ) (xs : List X) → Each (λ x. f x ≡ None) xs → filter_map f xs ≡ []
read-none f [] all = refl
read-none f (x ∷ xs) all = ap (λ (o : Option ℕ). cons_option o (filter_map f xs)) all.0 ∙ read-none f xs all.1
