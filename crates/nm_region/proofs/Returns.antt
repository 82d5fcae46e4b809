-- Buffers that come back to their block: all of a region come, and with each one the block has a part
-- more, until it has all.
use Rattle.std.proofs.Common.{ℕ, zero, suc, ◌≡◌, ◌≢◌, ◌+◌, ◌-◌, ◌<◌, ◌≤◌, Bool, true, false, List, [], ◌∷◌, ◌++◌, length, map, get_or, nat_eq, inl, inr, refl, sym, ◌∙◌, ap, subst, arith}
use Rattle.std.specs.Prelude.{◌⊎◌, All, replicate, slice_set}
use Rattle.std.specs.List.{range_with_len, AllByRecursion}
use Rattle.std.proofs.lemmas.Bool.{cases_Bool}
use Rattle.std.proofs.lemmas.Bool.Decides.{nat_tests}
use Rattle.std.proofs.lemmas.List.{get_or-set_same, get_or-set_other, length-set}
use Rattle.std.proofs.lemmas.List.Elements.{All-from_recursion, recursion_from_All}
use Rattle.std.proofs.lemmas.List.Sorted.{All-permutation, IsPermutation-sym}
use Rattle.nm_region.specs.Buffers.{Buffer, RegionState, names_of, region_names, indices_of, AreAllOf}
use Rattle.nm_region.specs.Returned.{has, IsOf, AreComing}

-- ---- which indices stand in a list
has_first : (i k : ℕ) (ks : List ℕ) → nat_eq k i ≡ true → has i (k ∷ ks) ≡ true
has_first i k ks e = rw e refl

has_later : (i k : ℕ) (ks : List ℕ) → has i ks ≡ true → has i (k ∷ ks) ≡ true
has_later i k ks h = elim (cases_Bool (nat_eq k i)) [
  | inl e ↦ rw e refl
  | inr e ↦ rw e h
]

has_more : (k : ℕ) (ks is : List ℕ) → AllByRecursion (λ (i : ℕ). has i ks ≡ true) is → AllByRecursion (λ (i : ℕ). has i (k ∷ ks) ≡ true) is
has_more k ks [] p = tt
has_more k ks (i ∷ is) p = (has_later i k ks p.0, has_more k ks is p.1)

has_itself : (ks : List ℕ) → AllByRecursion (λ (i : ℕ). has i ks ≡ true) ks
has_itself [] = tt
has_itself (k ∷ ks) = (has_first k k ks (grind (arith, nat_tests)), has_more k ks ks (has_itself ks))

has_behind : (i : ℕ) (ks : List ℕ) (k : ℕ) → has i (ks ++ k ∷ []) ≡ true → (has i ks ≡ true) ⊎ (k ≡ i)
has_behind i [] k h = elim (cases_Bool (nat_eq k i)) [
  | inl e ↦ inr (grind (arith, nat_tests))
  | inr e ↦ inl (rw e at h)
]
has_behind i (j ∷ ks) k h = elim (cases_Bool (nat_eq j i)) [
  | inl e ↦ inl (rw e refl)
  | inr e ↦ rw e (has_behind i ks k (rw e at h))
]

-- ---- numbers of a range
at_range : (P : ℕ → Type 0) (from n : ℕ) → AllByRecursion P (range_with_len from n) → (i : ℕ) → from ≤ i → i < from + n → P i
at_range P from zero p i low high = absurd (let bad : i < i = omega arith in omega arith)
at_range P from (suc n) p i low high = elim (cases_Bool (nat_eq i from)) [
  | inl e ↦ (let same : from ≡ i = grind (arith, nat_tests) in subst P same p.0)
  | inr e ↦ (let above : from + 1 ≤ i = grind (arith, nat_tests) in at_range P (from + 1) n p.1 i above (omega arith))
]

-- ---- names
each_of : (r n : ℕ) (bufs : List Buffer) → AllByRecursion (λ (m : ℕ × ℕ). (m.0 ≡ r) × (2 ≤ m.1) × (m.1 < n + 2)) (names_of bufs) → AllByRecursion (IsOf r n) bufs
each_of r n [] p = tt
each_of r n (b ∷ bufs) p = (record { region = p.0.0; low = p.0.1; high = p.0.2 }, each_of r n bufs p.1)

range_named : (r n from m : ℕ) → 2 ≤ from → from + m ≤ n + 2
    → AllByRecursion (λ (x : ℕ × ℕ). (x.0 ≡ r) × (2 ≤ x.1) × (x.1 < n + 2)) (map (λ (index : ℕ). (r, index)) (range_with_len from m))
range_named r n from zero low high = tt
range_named r n from (suc m) low high = ((refl, low, omega arith), range_named r n (from + 1) m (omega arith) (omega arith))

names_have : (bufs : List Buffer) (is : List ℕ) → AllByRecursion (λ (i : ℕ). has i is ≡ true) (indices_of bufs) → AllByRecursion (λ (m : ℕ × ℕ). has m.1 is ≡ true) (names_of bufs)
names_have [] is p = tt
names_have (b ∷ bufs) is p = (p.0, names_have bufs is p.1)

indices_have : (r : ℕ) (is ks : List ℕ) → AllByRecursion (λ (m : ℕ × ℕ). has m.1 is ≡ true) (map (λ (index : ℕ). (r, index)) ks) → AllByRecursion (λ (i : ℕ). has i is ≡ true) ks
indices_have r is [] p = tt
indices_have r is (k ∷ ks) p = (p.0, indices_have r is ks p.1)

-- all buffers of a region come back to its block, whatever is at home
pub coming-all : (r : RegionState) (home : List Bool) (bufs : List Buffer) → length home ≡ r.buffers → AreAllOf r bufs → AreComing r.region home bufs
coming-all r home bufs count all =
    let n = length home in
    let names = region_names r in
    let In = λ (m : ℕ × ℕ). (m.0 ≡ r.region) × (2 ≤ m.1) × (m.1 < n + 2) in
    let Has = λ (m : ℕ × ℕ). has m.1 (indices_of bufs) ≡ true in
    let fit : AllByRecursion In names = range_named r.region n 2 r.buffers (omega arith) (omega (arith, count)) in
    let named : All In (names_of bufs) = All-permutation In names (names_of bufs) all (All-from_recursion In names fit) in
    let theirs : All Has (names_of bufs) = All-from_recursion Has (names_of bufs) (names_have bufs (indices_of bufs) (has_itself (indices_of bufs))) in
    let there : All Has names = All-permutation Has (names_of bufs) names (IsPermutation-sym names (names_of bufs) all) theirs in
    let stand : AllByRecursion (λ (i : ℕ). has i (indices_of bufs) ≡ true) (range_with_len 2 r.buffers) = indices_have r.region (indices_of bufs) (range_with_len 2 r.buffers) (recursion_from_All Has names there) in
    record {
      of = each_of r.region n bufs (recursion_from_All In (names_of bufs) named);
      each = λ at h. inr (at_range (λ (i : ℕ). has i (indices_of bufs) ≡ true) 2 r.buffers stand (at + 2) (omega arith) (omega (arith, h, count)));
    }

-- ---- one comes
front_of : (P : Buffer → Type 0) (bufs : List Buffer) (b : Buffer) → AllByRecursion P (bufs ++ b ∷ []) → AllByRecursion P bufs × P b
front_of P [] b p = (tt, p.0)
front_of P (c ∷ bufs) b p = (let rest = front_of P bufs b p.1 in ((p.0, rest.0), rest.1))

indices-last : (bufs : List Buffer) (b : Buffer) → indices_of (bufs ++ b ∷ []) ≡ indices_of bufs ++ b.index ∷ []
indices-last [] b = refl
indices-last (c ∷ bufs) b = ap (λ (others : List ℕ). c.index ∷ others) (indices-last bufs b)

pub last-of : (r : ℕ) (home : List Bool) (bufs rest : List Buffer) (b : Buffer) → bufs ≡ rest ++ b ∷ [] → AreComing r home bufs → IsOf r (length home) b
last-of r home bufs rest b e c = (front_of (IsOf r (length home)) rest b (rw e at c.of)).1

pub coming-less : (r : ℕ) (home : List Bool) (bufs rest : List Buffer) (b : Buffer) → bufs ≡ rest ++ b ∷ [] → AreComing r home bufs → AreComing r (slice_set home (b.index - 2) true) rest
coming-less r home bufs rest b e c =
    let parts = front_of (IsOf r (length home)) rest b (rw e at c.of) in
    let own = parts.1 in
    let place : ℕ = b.index - 2 in
    let within : place < length home = omega (arith, own.low, own.high) in
    let same : length (slice_set home place true) ≡ length home = length-set home place true in
    record {
      of = rw same parts.0;
      each = λ at h.
          let there : at < length home = omega (arith, h, same) in
          elim (cases_Bool (nat_eq at place)) [
            | inl y ↦ (let here : place ≡ at = grind (arith, nat_tests) in inl (subst (λ (k : ℕ). get_or (slice_set home place true) k false ≡ true) here (get_or-set_same home place true false within)))
            | inr y ↦ (let other : at ≢ place = grind (arith, nat_tests) in
                let kept : get_or (slice_set home place true) at false ≡ get_or home at false = get_or-set_other home place at true false other in
                still home bufs rest b e at place other kept (omega (arith, own.low)) (c.each at there))
          ];
    }
  where
    still : (home : List Bool) (bufs rest : List Buffer) (b : Buffer) → bufs ≡ rest ++ b ∷ [] → (at place : ℕ) → at ≢ place
        → get_or (slice_set home place true) at false ≡ get_or home at false → b.index ≡ place + 2
        → (get_or home at false ≡ true) ⊎ (has (at + 2) (indices_of bufs) ≡ true)
        → (get_or (slice_set home place true) at false ≡ true) ⊎ (has (at + 2) (indices_of rest) ≡ true)
    still home bufs rest b e at place other kept index (inl y) = inl (kept ∙ y)
    still home bufs rest b e at place other kept index (inr y) = elim (has_behind (at + 2) (indices_of rest) b.index (ap (has (at + 2)) (sym (ap indices_of e ∙ indices-last rest b)) ∙ y)) [
      | inl h ↦ inr h
      | inr h ↦ absurd (other (omega (arith, h, index)))
    ]

-- none is to come any more
pub all-home : (r : ℕ) (home : List Bool) (bufs : List Buffer) → bufs ≡ [] → AreComing r home bufs → home ≡ replicate (length home) true
all-home r home bufs none c = each-true home (λ at h. at-home at (c.each at h))
  where
    each-true : (home : List Bool) → ((at : ℕ) → at < length home → get_or home at false ≡ true) → home ≡ replicate (length home) true
    each-true [] each = refl
    each-true (y ∷ home) each = ap (λ (z : Bool). z ∷ home) (each 0 (omega arith)) ∙ ap (λ (rest : List Bool). true ∷ rest) (each-true home (λ at h. each (suc at) (omega arith)))

    at-home : (at : ℕ) → (get_or home at false ≡ true) ⊎ (has (at + 2) (indices_of bufs) ≡ true) → get_or home at false ≡ true
    at-home at (inl y) = y
    at-home at (inr y) = absurd (let bad : has (at + 2) [] ≡ true = rw none at y in cc)

pub ruleset returns = (coming-all, last-of, coming-less, all-home)
