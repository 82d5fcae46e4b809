-- A frame lies in buffers, one behind the other: each of its parts fills one, but for the last part.
pub use Rattle.nm_types.specs.Parts.{slots_of_length, slots_of_bytes, first_parts, parts_of, IsPart, HeldPart, told_parts, cut_frame, cut_frames}
