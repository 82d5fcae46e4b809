-- How large the frames of a batch are.
use Rattle.std.proofs.Common.{ℕ, List, [], ◌∷◌, ◌++◌, ◌≡◌, ◌+◌, ◌-◌, ◌*◌, ◌≤◌, ◌<◌, ◌&&◌, Bool, true, false, drop, length, refl, arith, inl, inr, slice_get, Some, nat_le}
use Rattle.std.specs.List.{list_all}
use Rattle.std.proofs.lemmas.Bool.{cases_Bool, le-leb, leb-true, leb-false}
use Rattle.std.proofs.lemmas.List.Sums.{sum_by-cons, sum_by-append}
use Rattle.std.proofs.Math.Seq.{drop-length}
use Rattle.nm_types.specs.Limits.{most_frame_bytes}
use Rattle.nm_types.specs.Frames.{Frame, slots_of, size_of_frames}
use Rattle.nm_types.specs.Sendable.{is_frame, fit_slots, fits_buffer}
use Rattle.nm_types.proofs.Lists.{drop-slice_get}
use Rattle.nm_types.proofs.PartLemmas.{slots-some, slots-few, slots-one}

pub size-cons : (f : Frame) (fs : List Frame) → size_of_frames (f ∷ fs) ≡ slots_of f + size_of_frames fs
size-cons f fs = sum_by-cons slots_of f fs

pub size-append : (fs gs : List Frame) → size_of_frames (fs ++ gs) ≡ size_of_frames fs + size_of_frames gs
size-append fs gs = sum_by-append slots_of fs gs

-- each frame takes a slot at least
pub length-size : (fs : List Frame) → length fs ≤ size_of_frames fs
length-size [] = omega arith
length-size (f ∷ fs) = let cut = size-cons f fs in let some = slots-some (length f.bytes) in let rest = length-size fs in omega (arith, cut, some, rest)

-- no slots, no frames
pub some-size : (fs : List Frame) → 0 < size_of_frames fs → 0 < length fs
some-size [] h = absurd (omega (arith, h))
some-size (f ∷ fs) h = omega arith

list_all-head : (x y : Bool) → (x && y) ≡ true → x ≡ true
list_all-head true y e = refl
list_all-head false y e = cc

list_all-tail : (x y : Bool) → (x && y) ≡ true → y ≡ true
list_all-tail true y e = e
list_all-tail false y e = cc

-- and 64 at most
pub size-most : (fs : List Frame) → list_all is_frame fs ≡ true → size_of_frames fs ≤ 64 * length fs
size-most [] h = omega arith
size-most (f ∷ fs) h =
    let cut = size-cons f fs in
    let few = slots-few (length f.bytes) (leb-true (length f.bytes) most_frame_bytes (list_all-head (is_frame f) (list_all is_frame fs) h)) in
    let rest = size-most fs (list_all-tail (is_frame f) (list_all is_frame fs) h) in
    omega (arith, cut, few, rest)

-- frames that each fit a buffer take one slot each
pub size-one : (fs : List Frame) → list_all fits_buffer fs ≡ true → size_of_frames fs ≡ length fs
size-one [] h = refl
size-one (f ∷ fs) h =
    let cut = size-cons f fs in
    let one = slots-one (length f.bytes) (leb-true (length f.bytes) 2048 (list_all-head (fits_buffer f) (list_all fits_buffer fs) h)) in
    let rest = size-one fs (list_all-tail (fits_buffer f) (list_all fits_buffer fs) h) in
    omega (arith, cut, one, rest)

not_le : (a b : ℕ) → b < a → nat_le a b ≡ false
not_le a b h = elim (cases_Bool (nat_le a b)) [
  | inl e ↦ absurd (let k = leb-true a b e in omega (arith, h, k))
  | inr e ↦ e
]

-- the frames from one on, where that is no longer than frames are and fits the slots that are left
pub fit_more : (fs : List Frame) (i room : ℕ) (f : Frame) → slice_get fs i ≡ Some f → nat_le (length f.bytes) most_frame_bytes ≡ true → slots_of f ≤ room
    → fit_slots room (drop i fs) ≡ fit_slots (room - slots_of f) (drop (i + 1) fs)
fit_more fs i room f e short fits =
    let rest = drop (i + 1) fs in
    let cut = size-cons f rest in
    let same : nat_le (size_of_frames (f ∷ rest)) room ≡ nat_le (size_of_frames rest) (room - slots_of f) = shifted (size_of_frames (f ∷ rest)) (size_of_frames rest) (slots_of f) room cut fits in
    rw (drop-slice_get fs i f e, same, short) refl
  where
    shifted : (all rest first room : ℕ) → all ≡ first + rest → first ≤ room → nat_le all room ≡ nat_le rest (room - first)
    shifted all rest first room cut fits = elim (cases_Bool (nat_le rest (room - first))) [
      | inl e ↦ (let h = leb-true rest (room - first) e in rw e (le-leb all room (omega (arith, h, cut, fits))))
      | inr e ↦ (let h = leb-false rest (room - first) e in rw e (not_le all room (omega (arith, h, cut, fits))))
    ]

pub fit_long : (fs : List Frame) (i room : ℕ) (f : Frame) → slice_get fs i ≡ Some f → nat_le (length f.bytes) most_frame_bytes ≡ false → fit_slots room (drop i fs) ≡ false
fit_long fs i room f e long = rw (drop-slice_get fs i f e, long) (and_false (nat_le (size_of_frames (f ∷ drop (i + 1) fs)) room))
  where
    and_false : (x : Bool) → (x && false) ≡ false
    and_false true = refl
    and_false false = refl

pub fit_past : (fs : List Frame) (i room : ℕ) (f : Frame) → slice_get fs i ≡ Some f → room < slots_of f → fit_slots room (drop i fs) ≡ false
fit_past fs i room f e past =
    let cut = size-cons f (drop (i + 1) fs) in
    let over : nat_le (size_of_frames (f ∷ drop (i + 1) fs)) room ≡ false = not_le (size_of_frames (f ∷ drop (i + 1) fs)) room (omega (arith, cut, past)) in
    rw (drop-slice_get fs i f e, over) refl

pub fit_end : (fs : List Frame) (room : ℕ) → fit_slots room (drop (length fs) fs) ≡ true
fit_end fs room = rw (drop-length fs, le-leb 0 room (omega arith)) refl

pub ruleset sizes = (fit_more, fit_long, fit_past, fit_end)
