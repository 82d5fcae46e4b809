-- what one send may carry: so many frames, of so many slots together, and each of so many bytes
use Rattle.std.specs.Prelude.{ℕ, Bool, true, ◌≡◌, ◌≤◌, ◌<◌, ◌&&◌, nat_le, List, length, IsTrue}
use Rattle.std.specs.List.{list_all}
use Rattle.nm_types.specs.Limits.{buffer_bytes, most_batch, most_frame_bytes}
use Rattle.nm_types.specs.Frames.{Frame, size_of_frames}

-- a frame of one slot
abbrev pub fits_buffer : Frame → Bool
fits_buffer frame = nat_le (length frame.bytes) buffer_bytes

-- bytes that a frame may have, and a frame of them, as a test too
abbrev pub IsFrameBytes : List ℕ → Type 0
IsFrameBytes bytes = length bytes ≤ most_frame_bytes

abbrev pub IsFrame : Frame → Type 0
IsFrame frame = IsFrameBytes frame.bytes

abbrev pub is_frame : Frame → Bool
is_frame frame = nat_le (length frame.bytes) most_frame_bytes

abbrev pub AreFrames : List Frame → Type 0
AreFrames frames = list_all is_frame frames ≡ true

-- frames of at most so many slots together
abbrev pub fit_slots : ℕ → List Frame → Bool
fit_slots room frames = nat_le (size_of_frames frames) room && list_all is_frame frames

abbrev pub is_sendable : List Frame → Bool
is_sendable frames = nat_le (length frames) most_batch && fit_slots most_batch frames

abbrev pub IsSendable : List Frame → Type 0
IsSendable frames = IsTrue (is_sendable frames)

-- the frames of a push of so many slots
pub record AreSent (frames : List Frame) (count : ℕ) : Type 0 where
  pub fit : AreFrames frames
  pub within : size_of_frames frames ≤ count
  pub some : 0 < count → 0 < length frames
