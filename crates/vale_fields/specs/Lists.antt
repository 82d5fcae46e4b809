-- The lists of a line: items with commas between them, or a dash where there are none.
use Rattle.std.specs.Prelude.{ℕ, Bool, ◌==◌, if◌then◌else◌, List, [], map, flat_map, codes, bytes_eq}
use Rattle.std.specs.List.{slice_split}
use Rattle.nm_types.specs.Frames.{Frame}
use Rattle.vale_entry.specs.declared.entry.Dest.{Dest}
use Rattle.vale_entry.specs.declared.entry.Item.{Item}
use Rattle.vale_entry.specs.Spans.{numbers_in}
use Rattle.vale_fields.specs.Fields.{span_of, frame_of, dest_of, item_of}

abbrev pub is_comma : ℕ → Bool
is_comma b = b == 44

abbrev pub is_blank : ℕ → Bool
is_blank b = b == 32

-- the words of a line, cut at blanks
abbrev pub words_of : List ℕ → List (List ℕ)
words_of line = slice_split is_blank line

unfoldable pub parts_of : List ℕ → List (List ℕ)
parts_of word = if bytes_eq word (codes "-") then [] else slice_split is_comma word

-- the numbers of spans, in a text of either version
abbrev pub numbers_of : List ℕ → List ℕ
numbers_of word = flat_map numbers_in (map span_of (parts_of word))

abbrev pub dests_of : List ℕ → List Dest
dests_of word = map dest_of (parts_of word)

abbrev pub items_of : List ℕ → List Item
items_of word = map item_of (parts_of word)

abbrev pub frames_of : List ℕ → List Frame
frames_of word = map frame_of (parts_of word)
