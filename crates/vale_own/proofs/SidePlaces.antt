-- The places of a session's side: a buffer stands in one of them at most, and what its user may name
-- stands in some.
use Rattle.std.proofs.Common.{ℕ, zero, suc, ◌+◌, ◌<◌, ◌≤◌, ◌≡◌, Bool, true, false, ◌||◌, ◌==◌, nat_eq, List, [], ◌∷◌, ◌++◌, map, flat_map, length, get_or, Option, Some, None, refl, sym, ◌∙◌, ap, arith, inl, inr}
use Rattle.std.specs.Prelude.{find}
use Rattle.std.specs.List.{AllByRecursion as Each, IsDistinct, range_with_len}
use Rattle.std.proofs.lemmas.Bool.{cases_Bool, cases_lt, eqb-true, eqb-false, eq-eqb, ne_eqb}
use Rattle.std.proofs.lemmas.List.Folds.{list_any-append}
use Rattle.nm_types.specs.declared.id.Side.{Side}
use Rattle.nm_types.specs.declared.id.Side.TheVariants.{Tx, Rx}
use Rattle.nm_types.specs.Positions.{IsRing, dist, step_on, slots_from, user_slots}
use Rattle.nm_types.specs.OwnPorts.{OwnRing, OwnPort, ring_on, buffers_in, held_if, named_in, user_buffers_if, index_of, buffer_in}
use Rattle.nm_types.proofs.RingSteps.{dist-below, step_on-below, step_on-dist, dist-step_on}
use Rattle.vale_entry.specs.Holdings.{contains}
use Rattle.vale_entry.proofs.Counting.{count_of, count_of-cons, count_of-append, contains-count}
use Rattle.vale_own.specs.Side.{IsTxRing, IsRxRing, IsTxRingIf, IsSoundPort}

-- a place of a list, and two of them
pub count-at : (xs : List ℕ) (i : ℕ) → i < length xs → 1 ≤ count_of (get_or xs i 0) xs
count-at [] i below = absurd (omega arith)
count-at (x ∷ xs) zero below = let all = count_of-cons x x xs in let here = eq-eqb x x refl in rw all (rw here (omega arith))
count-at (x ∷ xs) (suc i) below =
    let rest = count-at xs i (omega arith) in
    let all = count_of-cons (get_or xs i 0) x xs in
    omega (arith, rest, all)

count-two-at : (xs : List ℕ) (i j : ℕ) → i < j → j < length xs → get_or xs i 0 ≡ get_or xs j 0 → 2 ≤ count_of (get_or xs j 0) xs
count-two-at [] i j less below same = absurd (omega arith)
count-two-at (x ∷ xs) i zero less below same = absurd (omega arith)
count-two-at (x ∷ xs) zero (suc j) less below same =
    let rest = count-at xs j (omega arith) in
    let all = count_of-cons (get_or xs j 0) x xs in
    let here : (x == get_or xs j 0) ≡ true = eq-eqb x (get_or xs j 0) same in
    rw all (rw here (omega (arith, rest)))
count-two-at (x ∷ xs) (suc i) (suc j) less below same =
    let rest = count-two-at xs i j (omega arith) (omega arith) same in
    let all = count_of-cons (get_or xs j 0) x xs in
    omega (arith, rest, all)

pub places-differ : (xs : List ℕ) (i j : ℕ) → ((b : ℕ) → count_of b xs ≤ 1) → i < length xs → j < length xs → get_or xs i 0 ≡ get_or xs j 0 → i ≡ j
places-differ xs i j once first second same = elim (cases_lt i j) [
  | inl less ↦ absurd (let two = count-two-at xs i j less second same in let one = once (get_or xs j 0) in omega (arith, two, one))
  | inr more ↦ elim (cases_lt j i) [
    | inl less ↦ absurd (let two = count-two-at xs j i less first (sym same) in let one = once (get_or xs i 0) in omega (arith, two, one))
    | inr least ↦ omega arith
  ]
]

-- numbers that a map keeps apart
pub distinct-mapped : (f : ℕ → ℕ) (P : ℕ → Type 0) → ((x y : ℕ) → P x → P y → f x ≡ f y → x ≡ y) → (xs : List ℕ) → Each P xs → IsDistinct nat_eq xs → IsDistinct nat_eq (map f xs)
unfolding IsDistinct
distinct-mapped f P apart [] all once = tt
distinct-mapped f P apart (x ∷ xs) all once = (others xs all.1 once.0, distinct-mapped f P apart xs all.1 once.1)
  where
    others : (ys : List ℕ) → Each P ys → Each (λ y. nat_eq x y ≡ false) ys → Each (λ y. nat_eq (f x) y ≡ false) (map f ys)
    others [] ps differ = tt
    others (y ∷ ys) ps differ = (ne_eqb (f x) (f y) (λ e. eqb-false x y differ.0 (apart x y all.0 ps.0 e)), others ys ps.1 differ.1)

-- slots of a ring, one by one
pub each-slot : (P : ℕ → Type 0) (size at count : ℕ) → ((k : ℕ) → k < count → P (step_on size at k)) → Each P (slots_from size at count)
each-slot P size at count holds = from 0 count (λ k low below. holds k (omega arith))
  where
    from : (first n : ℕ) → ((k : ℕ) → first ≤ k → k < first + n → P (step_on size at k)) → Each P (map (step_on size at) (range_with_len first n))
    from first zero all = tt
    from first (suc n) all = (all first (omega arith) (omega arith), from (first + 1) n (λ k low below. all k (omega arith) (omega arith)))

pub slot-there : (f : ℕ → ℕ) (size at count k : ℕ) → k < count → contains (f (step_on size at k)) (map f (slots_from size at count)) ≡ true
slot-there f size at count k below = from 0 count (omega arith) (omega arith)
  where
    or-second : (a b : Bool) → b ≡ true → (a || b) ≡ true
    or-second true b e = refl
    or-second false b e = e

    or-first : (a b : Bool) → a ≡ true → (a || b) ≡ true
    or-first true b e = refl
    or-first false b e = absurd cc

    from : (first n : ℕ) → first ≤ k → k < first + n → contains (f (step_on size at k)) (map f (map (step_on size at) (range_with_len first n))) ≡ true
    from first zero low high = absurd (omega arith)
    from first (suc n) low high = elim (cases_lt first k) [
      | inl less ↦ or-second (f (step_on size at first) == f (step_on size at k)) (contains (f (step_on size at k)) (map f (map (step_on size at) (range_with_len (first + 1) n)))) (from (first + 1) n (omega arith) (omega arith))
      | inr here ↦ (let is : first ≡ k = omega arith in
          or-first (f (step_on size at first) == f (step_on size at k)) (contains (f (step_on size at k)) (map f (map (step_on size at) (range_with_len (first + 1) n))))
          (eq-eqb (f (step_on size at first)) (f (step_on size at k)) (ap (λ (j : ℕ). f (step_on size at j)) is)))
    ]

-- what a mapped list contains is of some element
pub contained-by : (Q : Type 0) (b : ℕ) (f : ℕ → ℕ) (P : ℕ → Type 0) (xs : List ℕ) → Each P xs → ((x : ℕ) → P x → f x ≡ b → Q) → contains b (map f xs) ≡ true → Q
contained-by Q b f P [] all from e = absurd cc
contained-by Q b f P (x ∷ xs) all from e = elim (cases_Bool (f x == b)) [
  | inl here ↦ from x all.0 (eqb-true (f x) b here)
  | inr other ↦ contained-by Q b f P xs all.1 from (rw other at e)
]

pub place-contained : (xs : List ℕ) (i : ℕ) → i < length xs → contains (get_or xs i 0) xs ≡ true
place-contained [] i below = absurd (omega arith)
place-contained (x ∷ xs) zero below = let here = eq-eqb x x refl in rw here refl
place-contained (x ∷ xs) (suc i) below = or-second (x == get_or xs i 0) (contains (get_or xs i 0) xs) (place-contained xs i (omega arith))
  where
    or-second : (a b : Bool) → b ≡ true → (a || b) ≡ true
    or-second true b e = refl
    or-second false b e = e

-- in one of two lists
pub in-first : (b : ℕ) (xs ys : List ℕ) → contains b xs ≡ true → contains b (xs ++ ys) ≡ true
in-first b xs ys e = list_any-append (λ (x : ℕ). x == b) xs ys ∙ ap (λ (t : Bool). t || contains b ys) e

pub in-second : (b : ℕ) (xs ys : List ℕ) → contains b ys ≡ true → contains b (xs ++ ys) ≡ true
in-second b xs ys e = list_any-append (λ (x : ℕ). x == b) xs ys ∙ by (contains b xs)
  where
    by : (t : Bool) → (t || contains b ys) ≡ true
    by true = refl
    by false = e

pub in-either : (Q : Type 0) (b : ℕ) (xs ys : List ℕ) → (contains b xs ≡ true → Q) → (contains b ys ≡ true → Q) → contains b (xs ++ ys) ≡ true → Q
in-either Q b xs ys first second e = by (contains b xs) refl
  where
    whole : (contains b xs || contains b ys) ≡ true
    whole = sym (list_any-append (λ (x : ℕ). x == b) xs ys) ∙ e

    by : (t : Bool) → contains b xs ≡ t → Q
    by true here = first here
    by false here = second (rw here at whole)

-- the ring on a side of a sound port
pub ring-sound : (side : Side) (p : OwnPort) (r : OwnRing) → IsSoundPort p → ring_on side p ≡ Some r → IsRing r.ring
ring-sound Tx p r sound has = (tx p.tx sound.tx has).positions
  where
    tx : (o : Option OwnRing) → IsTxRingIf o → o ≡ Some r → IsTxRing r
    tx None is e = absurd cc
    tx (Some q) is e = let same : q ≡ r = cc in rw (← same) is
ring-sound Rx p r sound has = let same : p.rx ≡ r = cc in rw (← same) sound.rx.positions

pub tx-sound : (p : OwnPort) (r : OwnRing) → IsSoundPort p → p.tx ≡ Some r → IsTxRing r
tx-sound p r sound has = tx p.tx sound.tx has
  where
    tx : (o : Option OwnRing) → IsTxRingIf o → o ≡ Some r → IsTxRing r
    tx None is e = absurd cc
    tx (Some q) is e = let same : q ≡ r = cc in rw (← same) is

-- a user's position has a place of its own
pub user-place : (side : Side) (p : OwnPort) (r : OwnRing) (k : ℕ) → IsSoundPort p → ring_on side p ≡ Some r → k < dist r.ring.size r.ring.accepted_head r.ring.last_tail
    → index_of side r.ring (step_on r.ring.size r.ring.accepted_head k) < length r.held
user-place Tx p r k sound has below =
    let tx = tx-sound p r sound has in
    let is = step_on-below r.ring.size r.ring.accepted_head k tx.positions.accepted in
    let all = tx.held in
    omega (arith, is, all)
user-place Rx p r k sound has below =
    let same : p.rx ≡ r = cc in
    let rx : IsRxRing r = rw (← same) sound.rx in
    let within = dist-below r.ring.size r.ring.accepted_head r.ring.last_tail rx.positions.accepted in
    let there = dist-step_on r.ring.size r.ring.accepted_head k rx.positions.accepted (omega arith) in
    let all = rx.held in
    omega (arith, there, all, below)

-- the places of a ring are among those of all ports
pub in-port : (side : Side) (p : OwnPort) (r : OwnRing) (b : ℕ) → ring_on side p ≡ Some r → count_of b r.held ≤ count_of b (buffers_in p)
in-port side p r b has =
    let all = count_of-append b (held_if p.tx) (p.rx.held ++ p.extra) in
    let rest = count_of-append b p.rx.held p.extra in
    on side has all rest
  where
    on : (s : Side) → ring_on s p ≡ Some r → count_of b (buffers_in p) ≡ count_of b (held_if p.tx) + count_of b (p.rx.held ++ p.extra) → count_of b (p.rx.held ++ p.extra) ≡ count_of b p.rx.held + count_of b p.extra
        → count_of b r.held ≤ count_of b (buffers_in p)
    on Tx e all rest = let is : held_if p.tx ≡ r.held = (let tx : p.tx ≡ Some r = e in ap held_if tx) in let same = ap (count_of b) is in omega (arith, all, same)
    on Rx e all rest = let is : p.rx.held ≡ r.held = (let rx : p.rx ≡ r = cc in ap (λ (q : OwnRing). q.held) rx) in let same = ap (count_of b) is in omega (arith, all, rest, same)

pub in-ports : (id : ℕ) (ports : List OwnPort) (p : OwnPort) (b : ℕ) → find (λ (q : OwnPort). q.id.0 == id) ports ≡ Some p → count_of b (buffers_in p) ≤ count_of b (flat_map buffers_in ports)
in-ports id [] p b found = absurd cc
in-ports id (q ∷ ports) p b found =
    let all = count_of-append b (buffers_in q) (flat_map buffers_in ports) in
    elim (cases_Bool (q.id.0 == id)) [
      | inl here ↦ (let is : q ≡ p = (let first : Some q ≡ Some p = rw here at found in cc) in
          let same = ap (λ (x : OwnPort). count_of b (buffers_in x)) is in omega (arith, all, same))
      | inr other ↦ (let rest = in-ports id ports p b (rw other at found) in omega (arith, all, rest))
    ]

-- what the user may name stands in some place
pub named-counted : (p : OwnPort) (b : ℕ) → IsSoundPort p → contains b (named_in p) ≡ true → 1 ≤ count_of b (buffers_in p)
named-counted p b sound e =
    let all = count_of-append b (held_if p.tx) (p.rx.held ++ p.extra) in
    in-either (1 ≤ count_of b (buffers_in p)) b (user_buffers_if p.tx) (p.rx.held ++ p.extra)
    (λ here. let one = tx p.tx sound.tx here in omega (arith, all, one))
    (λ here. let one = contains-count b (p.rx.held ++ p.extra) here in omega (arith, all, one)) e
  where
    tx : (o : Option OwnRing) → IsTxRingIf o → contains b (user_buffers_if o) ≡ true → 1 ≤ count_of b (held_if o)
    tx None is here = absurd cc
    tx (Some r) is here =
        contained-by (1 ≤ count_of b r.held) b (buffer_in Tx r) (λ (at : ℕ). at < length r.held) (user_slots r.ring)
        (each-slot (λ (at : ℕ). at < length r.held) r.ring.size r.ring.accepted_head _ (λ k below. let inside = step_on-below r.ring.size r.ring.accepted_head k is.positions.accepted in let long = is.held in omega (arith, inside, long)))
        (λ at inside same. let one = count-at r.held at inside in rw (← same) one) here

pub all-named-counted : (ports : List OwnPort) (b : ℕ) → Each IsSoundPort ports → contains b (flat_map named_in ports) ≡ true → 1 ≤ count_of b (flat_map buffers_in ports)
all-named-counted [] b sound e = absurd cc
all-named-counted (p ∷ ports) b sound e =
    let all = count_of-append b (buffers_in p) (flat_map buffers_in ports) in
    in-either (1 ≤ count_of b (flat_map buffers_in (p ∷ ports))) b (named_in p) (flat_map named_in ports)
    (λ here. let one = named-counted p b sound.0 here in omega (arith, all, one))
    (λ later. let one = all-named-counted ports b sound.1 later in omega (arith, all, one)) e

-- and what stands in a place of the user may be named
pub place-named : (side : Side) (p : OwnPort) (r : OwnRing) (k : ℕ) → IsSoundPort p → ring_on side p ≡ Some r → k < dist r.ring.size r.ring.accepted_head r.ring.last_tail
    → contains (buffer_in side r (step_on r.ring.size r.ring.accepted_head k)) (named_in p) ≡ true
place-named Tx p r k sound has below =
    let tx : p.tx ≡ Some r = has in
    in-first (buffer_in Tx r (step_on r.ring.size r.ring.accepted_head k)) (user_buffers_if p.tx) (p.rx.held ++ p.extra)
    (rw tx (slot-there (buffer_in Tx r) r.ring.size r.ring.accepted_head (dist r.ring.size r.ring.accepted_head r.ring.last_tail) k below))
place-named Rx p r k sound has below =
    let same : p.rx ≡ r = cc in
    let b = buffer_in Rx r (step_on r.ring.size r.ring.accepted_head k) in
    in-second b (user_buffers_if p.tx) (p.rx.held ++ p.extra) (in-first b p.rx.held p.extra
    (rw same (place-contained r.held (index_of Rx r.ring (step_on r.ring.size r.ring.accepted_head k)) (user-place Rx p r k sound has below))))

pub named-in-ports : (id : ℕ) (ports : List OwnPort) (p : OwnPort) (b : ℕ) → find (λ (q : OwnPort). q.id.0 == id) ports ≡ Some p → contains b (named_in p) ≡ true → contains b (flat_map named_in ports) ≡ true
named-in-ports id [] p b found e = absurd cc
named-in-ports id (q ∷ ports) p b found e = elim (cases_Bool (q.id.0 == id)) [
  | inl here ↦ (let is : q ≡ p = (let first : Some q ≡ Some p = rw here at found in cc) in in-first b (named_in q) (flat_map named_in ports) (rw is e))
  | inr other ↦ in-second b (named_in q) (flat_map named_in ports) (named-in-ports id ports p b (rw other at found) e)
]

-- positions whose places hold the same buffer are one
pub positions-differ : (side : Side) (p : OwnPort) (r : OwnRing) (at there : ℕ) → IsSoundPort p → ring_on side p ≡ Some r → ((b : ℕ) → count_of b r.held ≤ 1)
    → at < r.ring.size → there < r.ring.size → index_of side r.ring at < length r.held → index_of side r.ring there < length r.held → buffer_in side r at ≡ buffer_in side r there → at ≡ there
positions-differ Tx p r at there sound has once first second inside within same = places-differ r.held at there once inside within same
positions-differ Rx p r at there sound has once first second inside within same =
    let is = ring-sound Rx p r sound has in
    let steps = places-differ r.held (index_of Rx r.ring at) (index_of Rx r.ring there) once inside within same in
    sym (step_on-dist r.ring.size r.ring.accepted_head at is.accepted first) ∙ (ap (step_on r.ring.size r.ring.accepted_head) steps ∙ step_on-dist r.ring.size r.ring.accepted_head there is.accepted second)
