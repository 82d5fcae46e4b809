-- Frames, as netmap(4) has them: bytes, and the mark that the switch is not to learn the source.
use Rattle.std.specs.Prelude.{ℕ, Bool, List, [], ◌∷◌, ◌++◌, length}
use Rattle.std.specs.List.{sum_by}
use Rattle.nm_types.specs.Parts.{slots_of_bytes}

pub record Frame : Type 0 where
  pub bytes : List ℕ
  pub no_learn : Bool

-- how many slots a frame takes: one for each buffer that it fills, and one for what is left
abbrev pub slots_of : Frame → ℕ
slots_of frame = slots_of_bytes frame.bytes

abbrev pub size_of_frames : List Frame → ℕ
size_of_frames frames = sum_by slots_of frames

abbrev pub bytes_of_frames : List Frame → ℕ
bytes_of_frames frames = sum_by (λ frame. length frame.bytes) frames

-- the frames, the last one with these bytes behind its own
abbrev pub extended_behind : List ℕ → Frame → List Frame → List Frame
extended_behind more frame [] = record frame { bytes = frame.bytes ++ more } ∷ []
extended_behind more frame (next ∷ frames) = frame ∷ extended_behind more next frames

abbrev pub extended : List ℕ → List Frame → List Frame
extended more [] = []
extended more (frame ∷ frames) = extended_behind more frame frames
