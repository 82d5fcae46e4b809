-- Laws of a frame's parts.
use Rattle.std.specs.Prelude.{ℕ, ◌≡◌, List, length, All}
use Rattle.std.specs.List.{concat}
use Rattle.nm_frag.specs.Parts.{slots_of_length, parts_of, IsPart}

abbrev pub PartsAreTheFrame : Type 0
PartsAreTheFrame = (bytes : List ℕ) → concat (parts_of bytes) ≡ bytes

abbrev pub PartsFitSlots : Type 0
PartsFitSlots = (bytes : List ℕ) → (length (parts_of bytes) ≡ slots_of_length (length bytes)) × All IsPart (parts_of bytes)
