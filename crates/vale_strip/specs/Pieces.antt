-- A line of the transcript in its parts.
use Rattle.std.specs.Prelude.{ℕ, List, [], ◌∷◌, ◌++◌, decimal}
use Rattle.std.specs.List.{flat_map}
use Rattle.vale_strip.specs.declared.pieces.Part.{Part}
use Rattle.vale_strip.specs.declared.pieces.Part.TheVariants.{Number as Digits, Text, Hex}
use Rattle.vale_strip.specs.declared.pieces.Piece.{Piece}
use Rattle.vale_strip.specs.declared.pieces.Piece.TheVariants.{Number, Word, Frames, Buffers, Destinations, Taken}
use Rattle.vale_entry.specs.Transcript.{hex_text, frames_text, buffers_text, dests_text, items_text}

abbrev pub part_text : Part → List ℕ
part_text (Digits n) = decimal n
part_text (Text text) = text.now
part_text (Hex bytes) = hex_text bytes.now

abbrev pub with_parts : List ℕ → List Part → List ℕ
with_parts text [] = text
with_parts text (part ∷ parts) = with_parts (text ++ part_text part) parts

-- the parts, one behind the other
abbrev pub parts_text : List Part → List ℕ
parts_text [] = []
parts_text (part ∷ parts) = with_parts (part_text part) parts

-- an item behind a mark
abbrev pub behind : {X : Type 0} → ℕ → (X → List ℕ) → X → List ℕ
behind mark f x = mark ∷ f x

abbrev pub piece_text : Piece → List ℕ
piece_text (Number n) = decimal n
piece_text (Word word) = word.now
piece_text (Frames frames) = frames_text frames.now
piece_text (Buffers version numbers) = buffers_text version numbers.now
piece_text (Destinations dests) = dests_text dests.now
piece_text (Taken items) = items_text items.now

-- the words of a line, each behind a blank
abbrev pub pieces_text : List Piece → List ℕ
pieces_text pieces = flat_map (behind 32 piece_text) pieces
