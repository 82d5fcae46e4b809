-- The buffers that stand in places: after a change of one place, and as a list that rises.
use Rattle.std.proofs.Common.{ℕ, zero, suc, ◌≡◌, ◌≢◌, ◌+◌, ◌<◌, ◌≤◌, true, false, List, [], ◌∷◌, ◌++◌, length, map, slice_set, slice_index, get_or, Option, Some, None, nat_lt, inl, inr, refl, sym, ap, arith, add-one}
use Rattle.std.specs.List.{range_with_len, AllByRecursion}
use Rattle.std.specs.List.Sorted.{IsStrictlyIncreasing}
use Rattle.std.proofs.lemmas.Bool.{cases_Bool}
use Rattle.std.proofs.lemmas.Bool.Decides.{nat_tests}
use Rattle.std.proofs.lemmas.List.Elements.{All-from_recursion}
use Rattle.nm_types.specs.Buffers.{IsPoolSize, IsBufferIndex}
use Rattle.nm_region.specs.Buffers.{Buffer, indices_of}
use Rattle.nm_pool.specs.Kept.{buffers_in, ArePlaced}
use Rattle.nm_pool.specs.Free.{with_buffer, IsPool}

pub buffers_in-append : (a b : List (Option Buffer)) → buffers_in (a ++ b) ≡ buffers_in a ++ buffers_in b
buffers_in-append [] b = refl
buffers_in-append (None ∷ a) b = buffers_in-append a b
buffers_in-append (Some x ∷ a) b = ap (λ (others : List Buffer). x ∷ others) (buffers_in-append a b)

pub kept_all : (bufs : List Buffer) → buffers_in (map (λ (b : Buffer). Some b) bufs) ≡ bufs
kept_all [] = refl
kept_all (b ∷ bufs) = ap (λ (others : List Buffer). b ∷ others) (kept_all bufs)

pub length-buffers_in : (places : List (Option Buffer)) → length (buffers_in places) ≤ length places
length-buffers_in [] = omega arith
length-buffers_in (None ∷ places) = omega (arith, length-buffers_in places)
length-buffers_in (Some b ∷ places) = omega (arith, length-buffers_in places)

pub ArePlaced-all : (index : ℕ) (bufs : List Buffer) → indices_of bufs ≡ range_with_len index (length bufs) → ArePlaced index (map (λ (b : Buffer). Some b) bufs)
ArePlaced-all index [] e = tt
ArePlaced-all index (b ∷ bufs) e =
    let others : indices_of bufs ≡ range_with_len (index + 1) (length bufs) = cc in
    (cc, ArePlaced-all (suc index) bufs (rw (add-one index) at others))

pub ArePlaced-set_none : (index : ℕ) (places : List (Option Buffer)) (i : ℕ) → ArePlaced index places → ArePlaced index (slice_set places i None)
ArePlaced-set_none index [] i p = tt
ArePlaced-set_none index (None ∷ places) zero p = p
ArePlaced-set_none index (Some b ∷ places) zero p = p.1
ArePlaced-set_none index (None ∷ places) (suc i) p = ArePlaced-set_none (suc index) places i p
ArePlaced-set_none index (Some b ∷ places) (suc i) p = (p.0, ArePlaced-set_none (suc index) places i p.1)

pub ArePlaced-set : (buf : Buffer) (index : ℕ) (places : List (Option Buffer)) (i : ℕ) → buf.index ≡ index + i → ArePlaced index places → ArePlaced index (slice_set places i (Some buf))
ArePlaced-set buf index [] i e p = tt
ArePlaced-set buf index (None ∷ places) zero e p = (omega arith, p)
ArePlaced-set buf index (Some b ∷ places) zero e p = (omega arith, p.1)
ArePlaced-set buf index (None ∷ places) (suc i) e p = ArePlaced-set buf (suc index) places i (omega arith) p
ArePlaced-set buf index (Some b ∷ places) (suc i) e p = (p.0, ArePlaced-set buf (suc index) places i (omega arith) p.1)

-- a buffer below all others comes first
with_buffer-first : (buf : Buffer) (index : ℕ) (places : List (Option Buffer)) → buf.index < index → ArePlaced index places → with_buffer buf (buffers_in places) ≡ buf ∷ buffers_in places
with_buffer-first buf index [] h p = refl
with_buffer-first buf index (None ∷ places) h p = with_buffer-first buf (suc index) places (omega arith) p
with_buffer-first buf index (Some b ∷ places) h p = let below : nat_lt buf.index b.index ≡ true = grind (arith, nat_tests, p.0) in rw below refl

-- a buffer put into its place, which is empty
pub buffers_in-set : (buf : Buffer) (index : ℕ) (places : List (Option Buffer)) (i : ℕ) → i < length places → None ≡ get_or places i None → buf.index ≡ index + i → ArePlaced index places
    → buffers_in (slice_set places i (Some buf)) ≡ with_buffer buf (buffers_in places)
buffers_in-set buf index [] i h none e p = absurd (omega arith)
buffers_in-set buf index (None ∷ places) zero h none e p = sym (with_buffer-first buf (suc index) places (omega arith) p)
buffers_in-set buf index (Some b ∷ places) zero h none e p = cc
buffers_in-set buf index (None ∷ places) (suc i) h none e p = buffers_in-set buf (suc index) places i (omega arith) none (omega arith) p
buffers_in-set buf index (Some b ∷ places) (suc i) h none e p =
    let above : nat_lt buf.index b.index ≡ false = grind (arith, nat_tests, p.0) in
    rw above (ap (λ (others : List Buffer). b ∷ others) (buffers_in-set buf (suc index) places i (omega arith) none (omega arith) p.1))

pub length-with_buffer : (buf : Buffer) (bufs : List Buffer) → length (with_buffer buf bufs) ≡ length bufs + 1
length-with_buffer buf [] = refl
length-with_buffer buf (b ∷ bufs) = elim (cases_Bool (nat_lt buf.index b.index)) [
  | inl e ↦ rw e (omega arith)
  | inr e ↦ rw e (omega (arith, length-with_buffer buf bufs))
]

-- no place has a buffer of an index that is not free
pub placed_apart : (index : ℕ) (places : List (Option Buffer)) (i at : ℕ) (b : Buffer) → i < length places → Some b ≡ get_or places i (Some b) → at ≡ index + i → ArePlaced index places
    → AllByRecursion (λ (other : ℕ). other ≢ at) (indices_of (buffers_in places)) → ⊥
placed_apart index [] i at b h e same p apart = omega arith
placed_apart index (None ∷ places) zero at b h e same p apart = cc
placed_apart index (Some x ∷ places) zero at b h e same p apart = apart.0 (omega (arith, p.0))
placed_apart index (None ∷ places) (suc i) at b h e same p apart = placed_apart (suc index) places i at b (omega arith) e (omega arith) p apart
placed_apart index (Some x ∷ places) (suc i) at b h e same p apart = placed_apart (suc index) places i at b (omega arith) e (omega arith) p.1 apart.1

first_above : (index : ℕ) (places : List (Option Buffer)) → ArePlaced index places → 0 < length (indices_of (buffers_in places)) → index ≤ slice_index (indices_of (buffers_in places)) 0
first_above index [] p h = absurd (omega arith)
first_above index (None ∷ places) p h = omega (arith, first_above (suc index) places p h)
first_above index (Some b ∷ places) p h = omega (arith, p.0)

kept_rise : (index : ℕ) (places : List (Option Buffer)) → ArePlaced index places → IsStrictlyIncreasing (indices_of (buffers_in places))
kept_rise index [] p k h = absurd (omega arith)
kept_rise index (None ∷ places) p k h = kept_rise (suc index) places p k h
kept_rise index (Some b ∷ places) p zero h = omega (arith, p.0, first_above (suc index) places p.1 (omega arith))
kept_rise index (Some b ∷ places) p (suc k) h =
    let others = kept_rise (suc index) places p.1 k (omega arith) in
    let step : suc k + 1 ≡ suc (k + 1) = omega arith in
    rw step others

kept_within : (index top : ℕ) (places : List (Option Buffer)) → 2 ≤ index → index + length places ≡ top + 2 → ArePlaced index places → AllByRecursion (IsBufferIndex top) (indices_of (buffers_in places))
kept_within index top [] low e p = tt
kept_within index top (None ∷ places) low e p = kept_within (suc index) top places (omega arith) (omega arith) p
kept_within index top (Some b ∷ places) low e p = ((omega (arith, p.0), omega (arith, p.0)), kept_within (suc index) top places (omega arith) (omega arith) p.1)

pub IsPool-buffers_in : (places : List (Option Buffer)) → IsPoolSize (length places) → ArePlaced 2 places → IsPool (record { buffers = length places; free = buffers_in places })
IsPool-buffers_in places size p = record {
  size = size;
  rise = kept_rise 2 places p;
  within = All-from_recursion (IsBufferIndex (length places)) (indices_of (buffers_in places)) (kept_within 2 (length places) places (omega arith) (omega arith) p);
}

-- where every place has its buffer, these are all there are
pub AreWhole-buffers_in : (index : ℕ) (places : List (Option Buffer)) → ArePlaced index places → length (buffers_in places) ≡ length places → indices_of (buffers_in places) ≡ range_with_len index (length (buffers_in places))
AreWhole-buffers_in index [] p e = refl
AreWhole-buffers_in index (None ∷ places) p e = absurd (omega (arith, length-buffers_in places))
AreWhole-buffers_in index (Some b ∷ places) p e =
    let others : indices_of (buffers_in places) ≡ range_with_len (index + 1) (length (buffers_in places)) = rw (add-one index) (AreWhole-buffers_in (suc index) places p.1 (omega arith)) in
    rw (others, p.0) refl
