-- Grants whose origins rise, taken apart by origin and put together again.
use Rattle.std.proofs.Common.{ℕ, ◌<◌, ◌≤◌, ◌≡◌, Bool, true, false, cond, ◌||◌, ◌==◌, List, [], ◌∷◌, ◌++◌, map, length, take, filter, flat_map, refl, sym, ◌∙◌, ap, subst, arith, append-nil, true≢false}
use Rattle.std.specs.List.{AllByRecursion as Each, list_any}
use Rattle.std.proofs.lemmas.Grind.{flat_map-append}
use Rattle.std.proofs.lemmas.Bool.{eqb-true, eqb-false, eq-eqb, ne_eqb}
use Rattle.nm_types.specs.Frames.{Frame}
use Rattle.vale_entry.specs.Laws.{Rise, IsThere}
use Rattle.vale_entry.specs.Delivered.{Brought, frames_brought}
use Rattle.vale_entry.specs.Fate.{Share, given_count, is_brought_of, is_among, origin_of}
use Rattle.vale_entry.proofs.Each.{each-weaker, each-both, each-unmap}
use Rattle.vale_entry.proofs.Rising.{rise-above}
use Rattle.vale_entry.proofs.Senders.{there-each}

pub flat_map-same :
    {X Y : Type 0} (f g : X → List Y) (xs : List X) → Each (λ x. f x ≡ g x) xs
    → flat_map f xs ≡ flat_map g xs
flat_map-same f g [] all = refl
flat_map-same f g (x ∷ xs) all =
    let rest = flat_map-same f g xs all.1 in
    ap (λ ys. ys ++ flat_map f xs) all.0 ∙ ap (λ ys. g x ++ ys) rest

pub flat_map-flat_map :
    {X Y Z : Type 0} (f : Y → List Z) (g : X → List Y) (xs : List X)
    → flat_map f (flat_map g xs) ≡ flat_map (λ x. flat_map f (g x)) xs
flat_map-flat_map f g [] = refl
flat_map-flat_map f g (x ∷ xs) =
    flat_map-append f (g x) (flat_map g xs) ∙ ap (λ ys. flat_map f (g x) ++ ys)
    (flat_map-flat_map f g xs)

none-of :
    (k : ℕ) (granted : List Brought) → Each (λ (gift : Brought). k < gift.origin) granted
    → filter (is_brought_of k) granted ≡ []
none-of k [] all = refl
none-of k (x ∷ xs) all =
    let above : k < x.origin = all.0 in
    let miss : (x.origin == k) ≡ false = ne_eqb x.origin k (λ e. omega (arith, above, e)) in
    rw miss (none-of k xs all.1)

-- what is above the first number is among the others
there_other : (k : ℕ) (ns : List ℕ) (m : ℕ) → (k ≡ m → ⊥) → IsThere (k ∷ ns) m → IsThere ns m
there_other k ns m apart there = by_test (k == m) (ne_eqb k m apart) there
  where
    by_test : (b : Bool) → b ≡ false → (b || list_any (λ (s : ℕ). s == m) ns) ≡ true → IsThere ns m
    by_test true e found = absurd cc
    by_test false e found = found

there_later : (k : ℕ) (ns : List ℕ) (m : ℕ) → k < m → IsThere (k ∷ ns) m → IsThere ns m
there_later k ns m above there = there_other k ns m (λ e. omega (arith, above, e)) there

later :
    (k : ℕ) (ns : List ℕ) (granted : List Brought)
    → Each (λ (gift : Brought). k < gift.origin) granted
    → Each (λ (gift : Brought). IsThere (k ∷ ns) gift.origin) granted
    → Each (λ (gift : Brought). IsThere ns gift.origin) granted
later k ns granted above there =
    each-both (λ (gift : Brought). k < gift.origin)
    (λ (gift : Brought). IsThere (k ∷ ns) gift.origin) (λ (gift : Brought). IsThere ns gift.origin)
    (λ gift high here. there_later k ns gift.origin high here) granted above there

above-all :
    (low : ℕ) (granted : List Brought) (high : ℕ) → Rise low (map origin_of granted) high
    → Each (λ (gift : Brought). low < gift.origin) granted
above-all low granted high r =
    each-unmap (λ (n : ℕ). low < n) origin_of granted
    (rise-above low (map origin_of granted) high r)

there_in : (ns : List ℕ) (m low high : ℕ) → Rise low ns high → IsThere ns m → low < m
there_in ns m low high r there =
    there-each (λ (n : ℕ). low < n) ns m (rise-above low ns high r) there

-- the parts of each number, by rising number, are the whole
abbrev AreParts : ℕ → List ℕ → Type 0
AreParts top numbers =
    (bottom : ℕ) (granted : List Brought) → Rise bottom (map origin_of granted) top
    → Each (λ (gift : Brought). IsThere numbers gift.origin) granted
    → flat_map (λ (k : ℕ). filter (is_brought_of k) granted) numbers ≡ granted

parts_by :
    (k : ℕ) (ns : List ℕ) (high bottom : ℕ) (x : Brought) (xs : List Brought) (top : ℕ) (hit : Bool)
    → (x.origin == k) ≡ hit → Rise k ns high
    → Rise bottom (map origin_of (x ∷ xs)) top
    → Each (λ (gift : Brought). IsThere (k ∷ ns) gift.origin) (x ∷ xs) → AreParts top ns
    → cond hit (x ∷ filter (is_brought_of k) xs) (filter (is_brought_of k) xs) ++ flat_map
    (λ (j : ℕ). filter (is_brought_of j) (x ∷ xs)) ns
    ≡ x ∷ xs
parts_by k ns high bottom x xs top true t r g there parts =
    let same : x.origin ≡ k = eqb-true x.origin k t in
    let above : Each (λ (gift : Brought). k < gift.origin) xs =
    subst (λ (m : ℕ). Each (λ (gift : Brought). m < gift.origin) xs) same
    (above-all x.origin xs top g.1) in
    let none = none-of k xs above in
    let others = flat_map-same (λ (j : ℕ). filter (is_brought_of j) (x ∷ xs))
    (λ (j : ℕ). filter (is_brought_of j) xs) ns
    (each-weaker (λ (j : ℕ). k < j)
    (λ (j : ℕ). filter (is_brought_of j) (x ∷ xs) ≡ filter (is_brought_of j) xs)
    (λ j high.
    ap (λ (b : Bool). cond b (x ∷ filter (is_brought_of j) xs) (filter (is_brought_of j) xs))
    (ne_eqb x.origin j (λ e. omega (arith, same, high, e)))) ns (rise-above k ns high r)) in
    let rest = parts x.origin xs g.1 (later k ns xs above there.1) in
    rw (none, others) (ap (λ (gs : List Brought). x ∷ gs) rest)
parts_by k ns high bottom x xs top false t r g there parts =
    let first : IsThere ns x.origin =
    there_other k ns x.origin (λ e. eqb-false x.origin k t (sym e)) there.0 in
    let high_first : k < x.origin = there_in ns x.origin k high r first in
    let above : Each (λ (gift : Brought). k < gift.origin) xs =
    each-weaker (λ (gift : Brought). x.origin < gift.origin) (λ (gift : Brought). k < gift.origin)
    (λ gift up. omega (arith, up, high_first)) xs (above-all x.origin xs top g.1) in
    let rest = parts bottom (x ∷ xs) g (first, later k ns xs above there.1) in
    ap (λ (gs : List Brought). gs ++ flat_map (λ (j : ℕ). filter (is_brought_of j) (x ∷ xs)) ns)
    (none-of k xs above) ∙ rest

no-parts : (ns : List ℕ) → flat_map (λ (k : ℕ). filter (is_brought_of k) []) ns ≡ []
no-parts [] = refl
no-parts (n ∷ ns) = no-parts ns

pub sorted-parts :
    (low : ℕ) (numbers : List ℕ) (high top : ℕ) → Rise low numbers high → AreParts top numbers
sorted-parts low [] high top r bottom [] g there = refl
sorted-parts low [] high top r bottom (x ∷ xs) g there = absurd (true≢false (sym there.0))
sorted-parts low (k ∷ ns) high top r bottom [] g there = no-parts ns
sorted-parts low (k ∷ ns) high top r bottom (x ∷ xs) g there =
    parts_by k ns high bottom x xs top (x.origin == k) refl r.1 g there
    (sorted-parts k ns high top r.1)

-- the part of a number that is there is the same of those that are among the numbers
part_by :
    (numbers : List ℕ) (k : ℕ) (x : Brought) (few : List Brought) (all : List Brought)
    (among mine : Bool)
    → is_among numbers x ≡ among → (x.origin == k) ≡ mine → IsThere numbers k
    → filter (is_brought_of k) few ≡ all
    → filter (is_brought_of k) (cond among (x ∷ few) few) ≡ cond mine (x ∷ all) all
part_by numbers k x few all true true a t there e = rw (t, e) refl
part_by numbers k x few all true false a t there e = rw (t, e) refl
part_by numbers k x few all false true a t there e =
    absurd
    (true≢false (sym (subst (λ (m : ℕ). IsThere numbers m) (sym (eqb-true x.origin k t)) there) ∙ a))
part_by numbers k x few all false false a t there e = e

pub part-among :
    (numbers : List ℕ) (k : ℕ) (granted : List Brought) → IsThere numbers k
    → filter (is_brought_of k) (filter (is_among numbers) granted) ≡ filter (is_brought_of k)
    granted
part-among numbers k [] there = refl
part-among numbers k (x ∷ xs) there =
    part_by numbers k x (filter (is_among numbers) xs) (filter (is_brought_of k) xs)
    (is_among numbers x) (x.origin == k) refl refl there (part-among numbers k xs there)

-- each number is there
pub each-there : (ns : List ℕ) → Each (λ (k : ℕ). IsThere ns k) ns
each-there [] = tt
each-there (n ∷ ns) = (
  ap (λ (b : Bool). b || list_any (λ (s : ℕ). s == n) ns) (eq-eqb n n refl),
  each-weaker (λ (k : ℕ). IsThere ns k) (λ (k : ℕ). IsThere (n ∷ ns) k)
      (λ k there. or_more (n == k) (list_any (λ (s : ℕ). s == k) ns) there) ns (each-there ns),
)
  where
    or_more : (a b : Bool) → b ≡ true → (a || b) ≡ true
    or_more true b e = refl
    or_more false b e = e

-- what was granted of an entry is the front that its one share gave
pub front-given :
    (wanted : List Frame) (shares : List Share) (granted : List Brought) → length shares ≤ 1
    → map frames_brought granted ≡ map (λ (share : Share). take share.given wanted) shares
    → flat_map frames_brought granted ≡ take (given_count shares) wanted
front-given wanted [] [] few e = refl
front-given wanted (share ∷ []) (x ∷ []) few e =
    let front : x.frames ≡ take share.given wanted = cc in
    append-nil x.frames ∙ front
front-given wanted (share ∷ other ∷ shares) granted few e = absurd (omega (arith, few))
front-given wanted _ _ few e = absurd cc
