-- What a field's text stands for. Each reading gives some value for any text; which texts are a value's
-- own is asked elsewhere.
use Rattle.std.specs.Prelude.{ℕ, Bool, true, false, ◌==◌, ◌+◌, ◌-◌, ◌*◌, nat_le, ◌&&◌, if◌then◌else◌, min, List, [], ◌∷◌, take, drop, slice_index, Option, Some, None, position}
use Rattle.nm_types.specs.Frames.{Frame}
use Rattle.nm_types.specs.Names.{is_name}
use Rattle.vale_entry.specs.declared.entry.Dest.{Dest}
use Rattle.vale_entry.specs.declared.entry.Item.{Item}
use Rattle.vale_entry.specs.declared.entry.Span.{Span}
use Rattle.vale_entry.specs.Spans.{single_span}
use Rattle.vale_words.specs.Words.{number_of}

-- a number of 64 bits, of 32 and of 16; a greater one is read as the greatest of its width
unfoldable pub long_of : List ℕ → ℕ
long_of word = min (number_of word) 18446744073709551615

unfoldable pub short_of : List ℕ → ℕ
short_of word = min (long_of word) 4294967295

unfoldable pub half_of : List ℕ → ℕ
half_of word = min (long_of word) 65535

-- a hexadecimal digit in lower case; any other byte counts as 0
unfoldable pub hex_value : ℕ → ℕ
hex_value b = if nat_le 48 b && nat_le b 57 then b - 48 else (if nat_le 97 b && nat_le b 102 then b - 87 else 0)

-- each two digits are a byte
abbrev pub bytes_of : List ℕ → List ℕ
bytes_of [] = []
bytes_of (x ∷ []) = []
bytes_of (x ∷ y ∷ digits) = (hex_value x * 16 + hex_value y) ∷ bytes_of digits

abbrev pub is_marked : List ℕ → Bool
is_marked word = slice_index word 0 == 126

-- digits behind a tilde are those of a frame that teaches nothing
unfoldable pub frame_of : List ℕ → Frame
frame_of word = if is_marked word then record { bytes = bytes_of (drop 1 word); no_learn = true } else record { bytes = bytes_of word; no_learn = false }

-- what stands before a mark, and what behind it
abbrev pub front_by : Option ℕ → List ℕ → List ℕ
front_by None word = word
front_by (Some k) word = take k word

abbrev pub back_by : Option ℕ → List ℕ → List ℕ
back_by None word = []
back_by (Some k) word = drop (k + 1) word

abbrev pub mark_in : ℕ → List ℕ → Option ℕ
mark_in mark word = position (λ b. b == mark) word

-- a number, or the first and the last of a span with a dash between them
abbrev pub span_by : Option ℕ → List ℕ → Span
span_by None word = single_span (short_of word)
span_by (Some k) word = record { first = short_of (take k word); last = short_of (drop (k + 1) word) }

unfoldable pub span_of : List ℕ → Span
span_of word = span_by (mark_in 45 word) word

unfoldable pub dest_of : List ℕ → Dest
dest_of word = record { to = (record { 0 = short_of (front_by (mark_in 42 word) word) }); count = short_of (back_by (mark_in 42 word) word) }

unfoldable pub item_of : List ℕ → Item
item_of word = record { index = short_of (front_by (mark_in 58 word) word); bytes = (record { bytes = bytes_of (back_by (mark_in 58 word) word); no_learn = false }) }

-- the name of a port, a pipe end or a monitor
unfoldable pub name_of : List ℕ → Option (List ℕ)
name_of word = if is_name word then Some word else None
