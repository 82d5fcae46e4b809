-- Frames that fit a buffer have few bytes.
use Rattle.std.proofs.Common.{◌*◌, ◌≤◌, ◌≡◌, true, List, [], ◌∷◌, length, arith}
use Rattle.std.specs.List.{list_all}
use Rattle.std.proofs.lemmas.Bool.{and_parts, leb-true}
use Rattle.std.proofs.lemmas.List.Sums.{sum_by-cons}
use Rattle.nm_types.specs.Frames.{Frame, bytes_of_frames, size_of_frames}
use Rattle.nm_types.specs.Sendable.{fits_buffer}
use Rattle.nm_types.proofs.PartLemmas.{slots-enough}
use Rattle.nm_types.proofs.Sizes.{size-cons}

pub frames-bytes :
    (frames : List Frame) → list_all fits_buffer frames ≡ true
    → bytes_of_frames frames ≤ 2048 * length frames
frames-bytes [] fit = omega arith
frames-bytes (frame ∷ frames) fit =
    let parts = and_parts (fits_buffer frame) (list_all fits_buffer frames) fit in
    let here = leb-true (length frame.bytes) 2048 parts.0 in
    let rest = frames-bytes frames parts.1 in
    let cut = sum_by-cons (λ (f : Frame). length f.bytes) frame frames in
    omega (arith, here, rest, cut)

-- and frames have no more bytes than the slots that they take
pub frames-slots : (frames : List Frame) → bytes_of_frames frames ≤ 2048 * size_of_frames frames
frames-slots [] = omega arith
frames-slots (frame ∷ frames) =
    let here = slots-enough (length frame.bytes) in
    let rest = frames-slots frames in
    let cut = sum_by-cons (λ (f : Frame). length f.bytes) frame frames in
    let size = size-cons frame frames in
    omega (arith, here, rest, cut, size)
