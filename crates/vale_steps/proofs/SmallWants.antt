-- The wants of a batch that may be sent are small.
use Rattle.std.proofs.Common.{ℕ, true, false, ◌≡◌, ◌+◌, ◌<◌, ◌≤◌, ◌^◌, ◌&&◌, List, [], ◌∷◌, ◌++◌, length, map, take, zero, suc, refl, sym, ap, subst, arith, inl, inr}
use Rattle.std.specs.Prelude.{nat_lt, nat_le, Option, Some, None, option_map, slice_get, All, sum}
use Rattle.std.specs.List.{AllByRecursion as Each, list_all}
use Rattle.std.proofs.lemmas.Bool.{cases_Bool, and_parts, leb-true}
use Rattle.std.proofs.lemmas.List.{length-map}
use Rattle.std.proofs.lemmas.List.Elements.{All-from_recursion, recursion_from_All, All-map, All-filter}
use Rattle.std.proofs.lemmas.List.FromFn.{length-range_with_len}
use Rattle.std.proofs.lemmas.List.Sums.{sum_by-cons}
use Rattle.nm_types.specs.Frames.{Frame, slots_of, size_of_frames}
use Rattle.nm_types.specs.Limits.{most_batch, most_frame_bytes}
use Rattle.nm_types.specs.Parts.{slots_of_length}
use Rattle.nm_types.specs.Sendable.{is_frame, is_sendable}
use Rattle.nm_types.specs.declared.id.PortId.{PortId}
use Rattle.nm_types.proofs.Sizes.{size-cons}
use Rattle.vale_learn.specs.AddressTable.{Entries}
use Rattle.vale_batch.specs.declared.lists.Want.{Want}
use Rattle.vale_batch.specs.Looking.{looked_up, looked_up_batch, learned_from}
use Rattle.vale_batch.specs.Wants.{Wanted, wanted, want_at, wants_of, wants_some, goes_to, places_from, sizes_for as sizes_at}
use Rattle.vale_parts.specs.Batches.{with_want}
use Rattle.vale_port.specs.Ports.{sizes_of}
use Rattle.vale_port.proofs.SeatTies.{sum-sizes}
use Rattle.vale_steps.specs.Offering.{slots_in, HasFewFrames}
use Rattle.vale_steps.specs.Wanting.{AreSmall, IsSmall, IsSmallWant, want_all, wants_with, sizes_for}

-- ---- the sizes of a batch

-- what is known of frames that may be sent
record MaySend (frames : List Frame) : Type 0 where
  few : length frames ≤ most_batch
  size : size_of_frames frames ≤ most_batch
  each : list_all is_frame frames ≡ true

may-send : (frames : List Frame) → is_sendable frames ≡ true → MaySend frames
may-send frames sendable =
    let outer = and_parts (nat_le (length frames) most_batch) (nat_le (size_of_frames frames) most_batch && list_all is_frame frames) sendable in
    let inner = and_parts (nat_le (size_of_frames frames) most_batch) (list_all is_frame frames) outer.1 in
    record { few = leb-true (length frames) most_batch outer.0; size = leb-true (size_of_frames frames) most_batch inner.0; each = inner.1 }

fits-at : (frames : List Frame) (i : ℕ) (bytes : List ℕ) → list_all is_frame frames ≡ true → option_map (λ (f : Frame). f.bytes) (slice_get frames i) ≡ Some bytes → length bytes ≤ most_frame_bytes
fits-at [] i bytes fit e = absurd cc
fits-at (f ∷ fs) zero bytes fit e =
    let same : f.bytes ≡ bytes = cc in
    subst (λ (b : List ℕ). length b ≤ most_frame_bytes) same (leb-true (length f.bytes) most_frame_bytes (and_parts (is_frame f) (list_all is_frame fs) fit).0)
fits-at (f ∷ fs) (suc i) bytes fit e = fits-at fs i bytes (and_parts (is_frame f) (list_all is_frame fs) fit).1 e

pub frame-fits : (frames : List Frame) (i : ℕ) (bytes : List ℕ) → is_sendable frames ≡ true → option_map (λ (f : Frame). f.bytes) (slice_get frames i) ≡ Some bytes → length bytes ≤ most_frame_bytes
frame-fits frames i bytes sendable e = fits-at frames i bytes (may-send frames sendable).each e

pub sizes-more : (frames : List Frame) (i : ℕ) (bytes : List ℕ) → option_map (λ (f : Frame). f.bytes) (slice_get frames i) ≡ Some bytes
    → sizes_of (take (i + 1) frames) ≡ sizes_of (take i frames) ++ slots_of_length (length bytes) ∷ []
sizes-more [] i bytes e = absurd cc
sizes-more (f ∷ fs) zero bytes e = let same : f.bytes ≡ bytes = cc in ap (λ (b : List ℕ). slots_of_length (length b) ∷ []) same
sizes-more (f ∷ fs) (suc i) bytes e =
    let next : suc i + 1 ≡ suc (i + 1) = omega arith in
    rw next (ap (λ (ns : List ℕ). slots_of f ∷ ns) (sizes-more fs i bytes e))

pub ruleset batch_sizes = (frame-fits, sizes-more)

pub sendable-small : (monitor : Option PortId) (frames : List Frame) → is_sendable frames ≡ true → AreSmall (sizes_for monitor frames)
sendable-small None frames sendable = record { count = omega arith; slots = omega arith }
sendable-small (Some to) frames sendable =
    let may = may-send frames sendable in
    let few = may.few in
    let size = may.size in
    let count = length-map frames slots_of in
    let slots = sum-sizes frames in
    record { count = omega (arith, few, count); slots = omega (arith, size, slots) }

-- ---- with a monitor's

small-with : (want : Wanted) (wants : List Wanted) → IsSmall want → Each IsSmall wants → Each IsSmall (with_want want wants)
small-with want [] small all = (small, tt)
small-with want (first ∷ wants) small all = elim (cases_Bool (nat_lt want.to.0 first.to.0)) [
  | inl before ↦ rw before (small, all)
  | inr behind ↦ rw behind (all.0, small-with want wants small all.1)
]

small-all : (to : PortId) (sizes : List ℕ) → AreSmall sizes → IsSmall (want_all to sizes)
small-all to sizes are =
    let places = length-range_with_len 0 (length sizes) in
    let count = are.count in
    record { places = omega (arith, count, places); sizes = are.count; slots = are.slots }

small-monitored : (monitor : Option PortId) (sizes : List ℕ) (wants : List Wanted) → AreSmall sizes → Each IsSmall wants → Each IsSmall (wants_with monitor sizes wants)
small-monitored None sizes wants are all = all
small-monitored (Some to) [] wants are all = all
small-monitored (Some to) (size ∷ sizes) wants are all = small-with (want_all to (size ∷ sizes)) wants (small-all to (size ∷ sizes) are) all

unseen : (wants : List Want) → Each IsSmall (map wanted wants) → Each IsSmallWant wants
unseen [] all = tt
unseen (want ∷ wants) all = (all.0, unseen wants all.1)

pub small-wants : (wants : List Want) (monitor : Option PortId) (sizes : List ℕ) (before : List Wanted) → AreSmall sizes → All IsSmall before
    → map wanted wants ≡ wants_with monitor sizes before → All IsSmallWant wants
small-wants wants monitor sizes before small all are =
    let each = small-monitored monitor sizes before small (recursion_from_All IsSmall before all) in
    All-from_recursion IsSmallWant wants (unseen wants (subst (Each IsSmall) (sym are) each))

-- ---- so there is room for their leases

pub small-slots : (wants : List Want) → All IsSmallWant wants → All (λ (want : Want). slots_in want < 2 ^ 32) wants
small-slots wants all = λ k d within. (all k d within).slots

pub small-few : (wants : List Want) → All IsSmallWant wants → Each HasFewFrames wants
small-few wants all = recursion_from_All HasFewFrames wants (λ k d within. (all k d within).sizes)

-- ---- those of a batch

-- no more frames, in no more slots
record IsWithin (places sizes : List ℕ) (frames : List Frame) : Type 0 where
  count : length places ≤ length frames
  each : length sizes ≤ length frames
  slots : sum sizes ≤ size_of_frames frames

within : (from port : PortId) (first : ℕ) (entries : Entries) (frames : List Frame)
    → IsWithin (places_from from port first (looked_up_batch from entries frames)) (sizes_at from port (looked_up_batch from entries frames)) frames
within from port first entries [] = record { count = omega arith; each = omega arith; slots = omega arith }
within from port first entries (frame ∷ frames) =
    let after = learned_from from entries frame in
    let looked = looked_up from after frame in
    let rest = within from port (first + 1) after frames in
    let count = rest.count in
    let each = rest.each in
    let slots = rest.slots in
    let size = size-cons frame frames in
    let own : looked.size ≡ slots_of frame = refl in
    let sums = sum_by-cons (λ (n : ℕ). n) looked.size (sizes_at from port (looked_up_batch from after frames)) in
    elim (cases_Bool (goes_to from port looked)) [
      | inl here ↦ rw here (record { count = omega (arith, count); each = omega (arith, each); slots = omega (arith, slots, sums, own, size) })
      | inr other ↦ rw other (record { count = omega (arith, count); each = omega (arith, each); slots = omega (arith, slots, size) })
    ]

pub sendable-wants : (from : PortId) (entries : Entries) (frames : List Frame) (ports : List PortId) → is_sendable frames ≡ true
    → All IsSmall (wants_of from (looked_up_batch from entries frames) ports)
sendable-wants from entries frames ports sendable =
    let looked = looked_up_batch from entries frames in
    let may = may-send frames sendable in
    let few = may.few in
    let size = may.size in
    let small : (port : PortId) → IsSmall (want_at from looked port) = λ port.
    let is = within from port 0 entries frames in
    let count = is.count in
    let each = is.each in
    let slots = is.slots in
    record { places = omega (arith, few, count); sizes = omega (arith, few, each); slots = omega (arith, size, slots) } in
    All-filter wants_some IsSmall (map (want_at from looked) ports) (All-map IsSmall (want_at from looked) ports (λ k d within. small _))

-- as a batch that was classified tells them
pub classified-small : (from : PortId) (entries : Entries) (frames : List Frame) (ports : List PortId) (wants : List Wanted) → is_sendable frames ≡ true
    → wants ≡ wants_of from (looked_up_batch from entries frames) ports → All IsSmall wants
classified-small from entries frames ports wants sendable are = subst (All IsSmall) (sym are) (sendable-wants from entries frames ports sendable)
