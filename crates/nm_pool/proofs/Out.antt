-- Buffers that are out of a pool, and its free ones, are all there are.
use Rattle.std.proofs.Common.{ℕ, zero, suc, ◌≡◌, ◌≢◌, ◌+◌, ◌<◌, ◌≤◌, true, false, List, [], ◌∷◌, ◌++◌, length, take, drop, map, get_or, nat_eq, nat_lt, inl, inr, refl, sym, ◌∙◌, ap, arith}
use Rattle.std.specs.Prelude.{All, IsPermutation, remove}
use Rattle.std.specs.List.{range_with_len, AllByRecursion, IsDistinct}
use Rattle.std.proofs.lemmas.Bool.{cases_Bool}
use Rattle.std.proofs.lemmas.Bool.Decides.{nat_tests}
use Rattle.std.proofs.lemmas.List.{append_assoc, take-append-drop, map-append, length-map}
use Rattle.std.proofs.lemmas.List.Elements.{All-from_recursion, recursion_from_All}
use Rattle.std.proofs.lemmas.List.FromFn.{length-map-range_with_len}
use Rattle.std.proofs.lemmas.List.Sorted.{IsPermutation-refl, IsPermutation-sym, IsPermutation-trans, IsPermutation-cons, IsPermutation-map, IsPermutation-middle, IsPermutation-remove, IsPermutation-append_left, IsPermutation-append_right, All-permutation, length_permutation}
use Rattle.std.proofs.lemmas.Map.Keys.{IsDistinct-IsPermutation}
use Rattle.nm_types.specs.Buffers.{IsBufferIndex}
use Rattle.nm_region.specs.Buffers.{Buffer, RegionState, indices_of, name_of, names_of, region_names}
use Rattle.nm_pool.specs.Free.{PoolState, with_buffer, AreOut}
use Rattle.nm_pool.specs.Laws.{TakingLosesNone, AnyOutCanBeGiven, GivingLosesNone, NoneOutIsWhole}

with_buffer_moves : (buf : Buffer) (bufs : List Buffer) → IsPermutation (buf ∷ bufs) (with_buffer buf bufs)
with_buffer_moves buf [] = IsPermutation-refl (buf ∷ [])
with_buffer_moves buf (b ∷ bufs) = elim (cases_Bool (nat_lt buf.index b.index)) [
  | inl e ↦ rw e (IsPermutation-refl (buf ∷ b ∷ bufs))
  | inr e ↦ rw e (IsPermutation-trans (buf ∷ b ∷ bufs) (b ∷ buf ∷ bufs) (b ∷ with_buffer buf bufs)
      (IsPermutation-sym (b ∷ buf ∷ bufs) (buf ∷ b ∷ bufs) (IsPermutation-middle (b ∷ []) buf bufs))
      (IsPermutation-cons b (buf ∷ bufs) (with_buffer buf bufs) (with_buffer_moves buf bufs)))
]

range_apart : (a from n : ℕ) → a < from → AllByRecursion (λ y. nat_eq a y ≡ false) (range_with_len from n)
range_apart a from zero h = tt
range_apart a from (suc n) h = (grind (arith, nat_tests), range_apart a (from + 1) n (omega arith))

range_distinct : (from n : ℕ) → IsDistinct nat_eq (range_with_len from n)
unfolding IsDistinct
range_distinct from zero = tt
range_distinct from (suc n) = (range_apart from (from + 1) n (omega arith), range_distinct (from + 1) n)

range_within : (top from n : ℕ) → 2 ≤ from → from + n ≤ top + 2 → AllByRecursion (IsBufferIndex top) (range_with_len from n)
range_within top from zero low h = tt
range_within top from (suc n) low h = ((omega arith, omega arith), range_within top (from + 1) n (omega arith) (omega arith))

nat_eq_flips : (x y : ℕ) → nat_eq x y ≡ nat_eq y x
nat_eq_flips x y = grind (arith, nat_tests)

pub taking_loses_none : TakingLosesNone
taking_loses_none r out pool n all =
    let same : (out ++ take n pool.free) ++ drop n pool.free ≡ out ++ pool.free = append_assoc out (take n pool.free) (drop n pool.free) ∙ ap (λ (free : List Buffer). out ++ free) (take-append-drop n pool.free) in
    record { each = rw same all.each; as_many = all.as_many }

-- the indices in the names
indices-names_of : (bufs : List Buffer) → map (λ (n : ℕ × ℕ). n.1) (names_of bufs) ≡ indices_of bufs
indices-names_of [] = refl
indices-names_of (b ∷ bufs) = ap (λ (others : List ℕ). b.index ∷ others) (indices-names_of bufs)

indices-named : (region : ℕ) (indices : List ℕ) → map (λ (n : ℕ × ℕ). n.1) (map (λ (index : ℕ). (region, index)) indices) ≡ indices
indices-named region [] = refl
indices-named region (i ∷ is) = ap (λ (others : List ℕ). i ∷ others) (indices-named region is)

-- the buffer at a place goes to the front
to_front : (out free : List Buffer) (at : ℕ) (buf : Buffer) → at < length out → buf ≡ get_or out at buf → IsPermutation (out ++ free) (buf ∷ (remove out at ++ free))
to_front out free at buf h e = IsPermutation-append_left free out (buf ∷ remove out at) (IsPermutation-remove out at buf h e)

front_of_all : (r : RegionState) (out : List Buffer) (pool : PoolState) (at : ℕ) (buf : Buffer) → at < length out → buf ≡ get_or out at buf → AreOut r out pool
    → IsPermutation (range_with_len 2 pool.buffers) (buf.index ∷ indices_of (remove out at ++ pool.free))
front_of_all r out pool at buf h e all =
    let front = buf ∷ (remove out at ++ pool.free) in
    let named = IsPermutation-trans (region_names r) (names_of (out ++ pool.free)) (names_of front) all.each (IsPermutation-map name_of (out ++ pool.free) front (to_front out pool.free at buf h e)) in
    let indexed = IsPermutation-map (λ (n : ℕ × ℕ). n.1) (region_names r) (names_of front) named in
    rw (all.as_many) (rw (indices-named r.region (range_with_len 2 r.buffers), indices-names_of front) at indexed)

behind : (P : ℕ → Type 0) (a b : List ℕ) → AllByRecursion P (a ++ b) → AllByRecursion P b
behind P [] b p = p
behind P (x ∷ a) b p = behind P a b p.1

differ : (x : ℕ) (ys : List ℕ) → AllByRecursion (λ y. nat_eq x y ≡ false) ys → AllByRecursion (λ y. y ≢ x) ys
differ x [] p = tt
differ x (y ∷ ys) p = ((λ e. let same : nat_eq x y ≡ true = grind (arith, nat_tests) in false_true (sym p.0 ∙ same)), differ x ys p.1)
  where
    false_true : false ≡ true → ⊥
    false_true e = cc

pub any_out_can_be_given : AnyOutCanBeGiven
unfolding IsDistinct
any_out_can_be_given r out pool at buf h e all =
    let range = range_with_len 2 pool.buffers in
    let others = remove out at in
    let front = front_of_all r out pool at buf h e all in
    let within : All (IsBufferIndex pool.buffers) (buf.index ∷ indices_of (others ++ pool.free)) = All-permutation (IsBufferIndex pool.buffers) range (buf.index ∷ indices_of (others ++ pool.free)) front (All-from_recursion (IsBufferIndex pool.buffers) range (range_within pool.buffers 2 pool.buffers (omega arith) (omega arith))) in
    let distinct : IsDistinct nat_eq (buf.index ∷ indices_of (others ++ pool.free)) = IsDistinct-IsPermutation nat_eq nat_eq_flips range (buf.index ∷ indices_of (others ++ pool.free)) front (range_distinct 2 pool.buffers) in
    let apart : AllByRecursion (λ y. nat_eq buf.index y ≡ false) (indices_of others ++ indices_of pool.free) = rw (map-append (λ (b : Buffer). b.index) others pool.free) at distinct.0 in
    record {
      index = (recursion_from_All (IsBufferIndex pool.buffers) (buf.index ∷ indices_of (others ++ pool.free)) within).0;
      other = All-from_recursion (λ (index : ℕ). index ≢ buf.index) (indices_of pool.free) (differ buf.index (indices_of pool.free) (behind (λ y. nat_eq buf.index y ≡ false) (indices_of others) (indices_of pool.free) apart));
    }

pub giving_loses_none : GivingLosesNone
giving_loses_none r out pool at buf h e all =
    let others = remove out at in
    let free = pool.free in
    let middle = IsPermutation-sym (others ++ buf ∷ free) (buf ∷ (others ++ free)) (IsPermutation-middle others buf free) in
    let put = IsPermutation-append_right others (buf ∷ free) (with_buffer buf free) (with_buffer_moves buf free) in
    let moved = IsPermutation-trans (out ++ free) (others ++ buf ∷ free) (others ++ with_buffer buf free)
    (IsPermutation-trans (out ++ free) (buf ∷ (others ++ free)) (others ++ buf ∷ free) (to_front out free at buf h e) middle) put in
    record {
      each = IsPermutation-trans (region_names r) (names_of (out ++ free)) (names_of (others ++ with_buffer buf free)) all.each (IsPermutation-map name_of (out ++ free) (others ++ with_buffer buf free) moved);
      as_many = all.as_many;
    }

pub none_out_is_whole : NoneOutIsWhole
none_out_is_whole r pool all =
    let as_many = length_permutation (region_names r) (names_of pool.free) all.each in
    let count : length pool.free ≡ pool.buffers = omega (arith, as_many, all.as_many, length-map pool.free name_of, length-map-range_with_len {X = ℕ × ℕ} (λ (index : ℕ). (r.region, index)) 2 r.buffers) in
    (count, all.each)

pub ruleset pool_laws = (taking_loses_none, any_out_can_be_given, giving_loses_none, none_out_is_whole)
