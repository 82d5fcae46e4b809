-- A frame lies in buffers, one behind the other: each of its parts fills one, but for the last part.
use Rattle.std.specs.Prelude.{ℕ, suc, zero, ◌≤◌, nat_le, if◌then◌else◌, List, [], ◌∷◌, length, take, drop, flat_map}
use Rattle.std.specs.Int.{div_ceil}
use Rattle.nm_types.specs.Limits.{buffer_bytes}

-- how many slots a frame of this length takes
abbrev pub slots_of_length : ℕ → ℕ
slots_of_length len = if nat_le len buffer_bytes then 1 else div_ceil len buffer_bytes

-- how many a frame of these bytes takes
abbrev pub slots_of_bytes : List ℕ → ℕ
slots_of_bytes bytes = slots_of_length (length bytes)

-- the first parts of these bytes, so many
abbrev pub first_parts : ℕ → List ℕ → List (List ℕ)
first_parts zero bytes = []
first_parts (suc count) bytes = take buffer_bytes bytes ∷ first_parts count (drop buffer_bytes bytes)

abbrev pub IsPart : List ℕ → Type 0
IsPart part = length part ≤ buffer_bytes

-- the parts of a frame
abbrev pub parts_of : List ℕ → List (List ℕ)
parts_of bytes = first_parts (slots_of_length (length bytes)) bytes

-- a part of a frame, behind which so many more of it follow
pub record HeldPart : Type 0 where
  pub bytes : List ℕ
  pub rest : ℕ

abbrev pub told_parts : List (List ℕ) → List HeldPart
told_parts [] = []
told_parts (part ∷ parts) = record { bytes = part; rest = length parts } ∷ told_parts parts

-- frames, one behind the other, in the buffers that they take
abbrev pub cut_frame : List ℕ → List HeldPart
cut_frame bytes = told_parts (parts_of bytes)

abbrev pub cut_frames : List (List ℕ) → List HeldPart
cut_frames frames = flat_map cut_frame frames
