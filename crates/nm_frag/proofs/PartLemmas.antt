-- The parts of a frame.
use Rattle.std.proofs.Common.{length}
use Rattle.nm_frag.specs.Parts.{slots_of_length}
use Rattle.nm_frag.specs.Laws.{PartsAreTheFrame, PartsFitSlots}
pub use Rattle.nm_types.proofs.PartLemmas.{slots-some, slots-few, slots-enough, slots-tight, slots-one, slots-within, parts, length-parts, concat-parts, all-parts, parts-one, told-one, length-told, length-cut}

pub parts_are_frame : PartsAreTheFrame
parts_are_frame bytes = concat-parts (slots_of_length (length bytes)) bytes (slots-enough (length bytes))

pub parts_fit_slots : PartsFitSlots
parts_fit_slots bytes = (length-parts (slots_of_length (length bytes)) bytes, all-parts (slots_of_length (length bytes)) bytes)

pub ruleset part_laws = (parts_are_frame, parts_fit_slots)
