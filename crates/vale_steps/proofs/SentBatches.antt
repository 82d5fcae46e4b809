-- What may be sent has few bytes.
use Rattle.std.proofs.Common.{◌≡◌, ◌<◌, ◌^◌, ◌&&◌, nat_le, List, length, true, arith}
use Rattle.std.specs.List.{list_all}
use Rattle.std.proofs.lemmas.Bool.{and_parts, leb-true}
use Rattle.nm_types.specs.Frames.{Frame, size_of_frames, bytes_of_frames}
use Rattle.nm_types.specs.Limits.{most_batch}
use Rattle.nm_types.specs.Sendable.{is_frame, is_sendable}
use Rattle.vale_entry.proofs.FrameBytes.{frames-slots}

pub bytes-few : (fs : List Frame) → is_sendable fs ≡ true → bytes_of_frames fs < 2 ^ 64
bytes-few fs e =
    let outer = and_parts (nat_le (length fs) most_batch) (nat_le (size_of_frames fs) most_batch && list_all is_frame fs) e in
    let inner = and_parts (nat_le (size_of_frames fs) most_batch) (list_all is_frame fs) outer.1 in
    let few = leb-true (size_of_frames fs) most_batch inner.0 in
    let bytes = frames-slots fs in
    omega arith
