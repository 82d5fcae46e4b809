-- The words of a script: lines cut at line feeds, words at blanks and tabs, and what a word can be.
use Rattle.std.specs.Prelude.{ℕ, Bool, true, ◌&&◌, ◌||◌, ◌==◌, ◌+◌, ◌-◌, ◌*◌, ◌/◌, ◌%◌, nat_lt, nat_le, if◌then◌else◌, List, [], ◌∷◌, length, map, codes, bytes_eq, filter, slice_index, Option, Some, None}
use Rattle.std.specs.List.{list_all, slice_split, range_with_len}
use Rattle.nm_types.specs.Limits.{buffer_bytes}
use Rattle.nm_types.specs.Names.{are_word_bytes, is_name}
use Rattle.nm_types.specs.declared.id.Mac.{Mac}

abbrev pub is_blank : ℕ → Bool
is_blank b = (b == 32) || (b == 9)

abbrev pub has_bytes : List ℕ → Bool
has_bytes word = nat_lt 0 (length word)

abbrev pub words_of : List ℕ → List (List ℕ)
words_of line = filter has_bytes (slice_split is_blank line)

-- a printable byte that is no blank
abbrev pub is_graphic : ℕ → Bool
is_graphic b = nat_le 33 b && nat_le b 126

-- what a line that says something holds: printable bytes, blanks and tabs
abbrev pub is_line_byte : ℕ → Bool
is_line_byte b = is_blank b || is_graphic b

abbrev pub are_line_bytes : List ℕ → Bool
are_line_bytes line = list_all is_line_byte line

abbrev pub begins_with_hash : List ℕ → Bool
begins_with_hash word = slice_index word 0 == 35

-- a line without words, or whose first word begins with `#`, says nothing
abbrev pub is_silent : List (List ℕ) → Bool
is_silent [] = true
is_silent (word ∷ words) = begins_with_hash word

-- a word of at least one byte and at most so many
abbrev pub has_up_to : ℕ → List ℕ → Bool
has_up_to most word = nat_lt 0 (length word) && nat_le (length word) most

-- a user's name: 1 to 16 letters, digits, `_` or `-`
abbrev pub is_user_name : List ℕ → Bool
is_user_name word = has_up_to 16 word && are_word_bytes word

unfoldable pub port_name : List ℕ → Option (List ℕ)
port_name word = if is_name word then Some word else None

abbrev pub are_graphic : List ℕ → Bool
are_graphic word = list_all is_graphic word

-- a file's name: any word
abbrev pub is_file_name : List ℕ → Bool
is_file_name word = has_bytes word && are_graphic word

-- the text of a word
unfoldable pub text_of : List ℕ → Option (List ℕ)
text_of word = if is_file_name word then Some word else None

abbrev pub is_digit : ℕ → Bool
is_digit b = nat_le 48 b && nat_le b 57

abbrev pub are_digits : List ℕ → Bool
are_digits word = list_all is_digit word

-- 1 to 20 decimal digits
abbrev pub is_number : List ℕ → Bool
is_number word = has_up_to 20 word && are_digits word

-- the number that digits write behind those of `n`
abbrev pub number_after : ℕ → List ℕ → ℕ
number_after n [] = n
number_after n (b ∷ bs) = number_after (n * 10 + (b - 48)) bs

abbrev pub number_of : List ℕ → ℕ
number_of word = number_after 0 word

-- a number in a range
unfoldable pub number_in : ℕ → ℕ → List ℕ → Option ℕ
number_in low high word = if is_number word && (nat_le low (number_of word) && nat_le (number_of word) high) then Some (number_of word) else None

-- hexadecimal digits, in either case
abbrev pub is_hex : ℕ → Bool
is_hex b = is_digit b || ((nat_le 97 b && nat_le b 102) || (nat_le 65 b && nat_le b 70))

abbrev pub hex_value : ℕ → ℕ
hex_value b = if is_digit b then b - 48 else (if nat_le 97 b then b - 87 else b - 55)

abbrev pub is_pair_at : List ℕ → ℕ → Bool
is_pair_at word i = is_hex (slice_index word i) && is_hex (slice_index word (i + 1))

abbrev pub byte_at : List ℕ → ℕ → ℕ
byte_at word i = hex_value (slice_index word i) * 16 + hex_value (slice_index word (i + 1))

abbrev pub is_colon_at : List ℕ → ℕ → Bool
is_colon_at word i = slice_index word i == 58

abbrev pub are_hex : List ℕ → Bool
are_hex word = list_all is_hex word

-- two hexadecimal digits
unfoldable pub is_hex_byte : List ℕ → Bool
is_hex_byte word = (length word == 2) && is_pair_at word 0

abbrev pub hex_byte_of : List ℕ → Option ℕ
hex_byte_of word = if is_hex_byte word then Some (byte_at word 0) else None

-- the digits of 1 to 2048 bytes
unfoldable pub is_digits : List ℕ → Bool
is_digits word = (has_up_to (2 * buffer_bytes) word && (length word % 2 == 0)) && are_hex word

-- each two digits are a byte
abbrev pub bytes_of : List ℕ → List ℕ
bytes_of word = map (λ (k : ℕ). byte_at word (2 * k)) (range_with_len 0 (length word / 2))

-- a frame in digits, or a dot for the empty one
unfoldable pub frame_bytes : List ℕ → Option (List ℕ)
frame_bytes word = if bytes_eq word (codes ".") then Some [] else (if is_digits word then Some (bytes_of word) else None)

-- six pairs of hexadecimal digits, joined by colons
abbrev pub are_pairs : List ℕ → Bool
are_pairs word = is_pair_at word 0 && (is_pair_at word 3 && (is_pair_at word 6 && (is_pair_at word 9 && (is_pair_at word 12 && is_pair_at word 15))))

abbrev pub are_joined : List ℕ → Bool
are_joined word = is_colon_at word 2 && (is_colon_at word 5 && (is_colon_at word 8 && (is_colon_at word 11 && is_colon_at word 14)))

unfoldable pub is_mac : List ℕ → Bool
is_mac word = (length word == 17) && (are_pairs word && are_joined word)

abbrev pub mac_value : List ℕ → Mac
mac_value word = record { 0 = byte_at word 0 ∷ byte_at word 3 ∷ byte_at word 6 ∷ byte_at word 9 ∷ byte_at word 12 ∷ byte_at word 15 ∷ [] }

unfoldable pub mac_of : List ℕ → Option Mac
mac_of word = if is_mac word then Some (mac_value word) else None
