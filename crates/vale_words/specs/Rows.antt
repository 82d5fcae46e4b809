-- Worked words, as theorems that hold by computation.
use Rattle.std.specs.Prelude.{ℕ, ◌≡◌, true, false, [], ◌∷◌, map, replicate, codes, Some, None, refl}
use Rattle.nm_types.specs.declared.id.Side.TheVariants as rings
use Rattle.nm_types.specs.declared.id.Sides.TheVariants as watched
use Rattle.nm_types.specs.Names.{is_name}
use Rattle.vale_words.specs.Fixed.{word_at, side_of, sides_of}
use Rattle.vale_words.specs.Lanes.{first_set}
use Rattle.vale_words.specs.Pairs.{digit_read, pair_read, pairs_read}
use Rattle.vale_words.specs.Words.{words_of, is_line_byte, is_silent, is_user_name, port_name, text_of, is_number, number_of, number_in, is_hex_byte, hex_byte_of, is_digits, frame_bytes, is_mac, mac_of}

-- blanks and tabs part words, however many, and none stands at an end
parted_words : words_of (codes " \ttx \t\ta\t") ≡ codes "tx" ∷ codes "a" ∷ []
parted_words = refl

-- no other byte does: not a line feed, a carriage return, nor what else is no graphic byte
whole_words : words_of (97 ∷ 10 ∷ 98 ∷ 11 ∷ 99 ∷ 12 ∷ 100 ∷ 13 ∷ 101 ∷ 160 ∷ []) ≡ (97 ∷ 10 ∷ 98 ∷ 11 ∷ 99 ∷ 12 ∷ 100 ∷ 13 ∷ 101 ∷ 160 ∷ []) ∷ []
whole_words = refl

no_words : words_of [] ≡ [] × words_of (codes " \t ") ≡ []
no_words = (refl, refl)

line_bytes : map is_line_byte (8 ∷ 9 ∷ 10 ∷ 13 ∷ 31 ∷ 32 ∷ 33 ∷ 126 ∷ 127 ∷ 128 ∷ []) ≡ false ∷ true ∷ false ∷ false ∷ false ∷ true ∷ true ∷ true ∷ false ∷ false ∷ []
line_bytes = refl

silent : map is_silent ([] ∷ (codes "#" ∷ []) ∷ (codes "#tx" ∷ codes "a" ∷ []) ∷ (codes "tx#" ∷ []) ∷ (codes "tx" ∷ codes "#" ∷ []) ∷ []) ≡ true ∷ true ∷ true ∷ false ∷ false ∷ []
silent = refl

-- names of users have 1 to 16 bytes
user_names : map is_user_name (codes "azAZ09_-" ∷ codes "-" ∷ codes "7" ∷ replicate 16 97 ∷ []) ≡ true ∷ true ∷ true ∷ true ∷ []
user_names = refl

no_user_names : map is_user_name ([] ∷ replicate 17 97 ∷ codes "a.b" ∷ codes "a:b" ∷ codes "a@" ∷ codes "a[" ∷ codes "a`" ∷ codes "a{" ∷ codes "a/" ∷ []) ≡ false ∷ false ∷ false ∷ false ∷ false ∷ false ∷ false ∷ false ∷ false ∷ []
no_user_names = refl

-- and so have those of ports
port_names : map port_name (codes "vale0:a" ∷ codes "vale:a-b" ∷ codes "pipe_{" ∷ codes "pipe0}" ∷ codes "mon-1" ∷ codes "vale0123456789:a" ∷ []) ≡ Some (codes "vale0:a") ∷ Some (codes "vale:a-b") ∷ Some (codes "pipe_{") ∷ Some (codes "pipe0}") ∷ Some (codes "mon-1") ∷ Some (codes "vale0123456789:a") ∷ []
unfolding port_name is_name
port_names = refl

no_port_names : map port_name (codes "vale01234567890:a" ∷ codes "vale0:" ∷ codes "vale0" ∷ codes "vale0:a:b" ∷ codes "pipe{" ∷ codes "pipe0" ∷ codes "mon" ∷ codes "Vale0:a" ∷ codes "eth0" ∷ []) ≡ None ∷ None ∷ None ∷ None ∷ None ∷ None ∷ None ∷ None ∷ None ∷ []
unfolding port_name is_name
no_port_names = refl

-- a file's name is any word
file_names : map text_of (codes "!" ∷ codes "a/b.pcap~" ∷ replicate 17 97 ∷ []) ≡ Some (codes "!") ∷ Some (codes "a/b.pcap~") ∷ Some (replicate 17 97) ∷ []
unfolding text_of
file_names = refl

no_file_names : map text_of ([] ∷ codes "a b" ∷ (97 ∷ 127 ∷ []) ∷ (97 ∷ 31 ∷ []) ∷ []) ≡ None ∷ None ∷ None ∷ None ∷ []
unfolding text_of
no_file_names = refl

-- a number has 1 to 20 digits, and may begin with zeros
numbers : map is_number (codes "0" ∷ codes "09" ∷ codes "18446744073709551615" ∷ replicate 20 48 ∷ []) ≡ true ∷ true ∷ true ∷ true ∷ []
numbers = refl

no_numbers : map is_number ([] ∷ replicate 21 48 ∷ codes "1a" ∷ codes "+1" ∷ codes "-1" ∷ codes "1/" ∷ codes "1:" ∷ codes "1." ∷ []) ≡ false ∷ false ∷ false ∷ false ∷ false ∷ false ∷ false ∷ false ∷ []
no_numbers = refl

number_values : map number_of (codes "0" ∷ codes "00070" ∷ codes "65536" ∷ codes "18446744073709551615" ∷ []) ≡ 0 ∷ 70 ∷ 65536 ∷ 18446744073709551615 ∷ []
number_values = refl

-- both ends of a range are in it
in_range : map (number_in 2 30) (codes "1" ∷ codes "2" ∷ codes "00000000000000000030" ∷ codes "31" ∷ codes "two" ∷ []) ≡ None ∷ Some 2 ∷ Some 30 ∷ None ∷ None ∷ []
unfolding number_in
in_range = refl

whole_range : map (number_in 0 18446744073709551615) (codes "0" ∷ codes "18446744073709551615" ∷ codes "18446744073709551616" ∷ codes "99999999999999999999" ∷ []) ≡ Some 0 ∷ Some 18446744073709551615 ∷ None ∷ None ∷ []
unfolding number_in
whole_range = refl

-- two hexadecimal digits, in either case
hex_bytes : map hex_byte_of (codes "00" ∷ codes "9a" ∷ codes "fF" ∷ codes "Af" ∷ []) ≡ Some 0 ∷ Some 154 ∷ Some 255 ∷ Some 175 ∷ []
unfolding is_hex_byte
hex_bytes = refl

no_hex_bytes : map hex_byte_of ([] ∷ codes "f" ∷ codes "0ff" ∷ codes "0g" ∷ codes "g0" ∷ codes "G0" ∷ codes "0@" ∷ codes "0`" ∷ codes "/0" ∷ codes ":0" ∷ codes "0x" ∷ []) ≡ None ∷ None ∷ None ∷ None ∷ None ∷ None ∷ None ∷ None ∷ None ∷ None ∷ None ∷ []
unfolding is_hex_byte
no_hex_bytes = refl

-- a frame's digits are those of 1 to 2,048 bytes
frames : map frame_bytes (codes "." ∷ codes "00fF10" ∷ codes "7e" ∷ []) ≡ Some [] ∷ Some (0 ∷ 255 ∷ 16 ∷ []) ∷ Some (126 ∷ []) ∷ []
unfolding frame_bytes is_digits
frames = refl

no_frames : map frame_bytes ([] ∷ codes "0" ∷ codes "000" ∷ codes "0g" ∷ codes ".." ∷ codes ".0" ∷ []) ≡ None ∷ None ∷ None ∷ None ∷ None ∷ None ∷ []
unfolding frame_bytes is_digits
no_frames = refl

most_digits : map is_digits (replicate 4096 48 ∷ replicate 4098 48 ∷ replicate 4095 48 ∷ []) ≡ true ∷ false ∷ false ∷ []
unfolding is_digits
most_digits = refl

-- an address is six pairs of digits, joined by colons
address : mac_of (codes "Ff:00:1a:A1:09:90") ≡ Some (record { 0 = 255 ∷ 0 ∷ 26 ∷ 161 ∷ 9 ∷ 144 ∷ [] })
unfolding mac_of is_mac
address = refl

no_address : map is_mac (codes "ff:00:1a:a1:09:9" ∷ codes "ff:00:1a:a1:09:900" ∷ codes "ff:00:1a:a1:09" ∷ codes "ff-00:1a:a1:09:90" ∷ codes "ff:00:1a:a1:09-90" ∷ codes "ff:00:1a:a1:09:9g" ∷ codes "gf:00:1a:a1:09:90" ∷ codes "ff001aa10990" ∷ []) ≡ false ∷ false ∷ false ∷ false ∷ false ∷ false ∷ false ∷ false ∷ []
unfolding is_mac
no_address = refl

-- the same, read digit by digit
digits_read : map digit_read (codes "09afAF/:@G`g") ≡ Some 0 ∷ Some 9 ∷ Some 10 ∷ Some 15 ∷ Some 10 ∷ Some 15 ∷ None ∷ None ∷ None ∷ None ∷ None ∷ None ∷ []
digits_read = refl

pairs_of_a_word : map (pair_read (codes "0aFf")) (0 ∷ 1 ∷ 2 ∷ 3 ∷ []) ≡ Some 10 ∷ Some 175 ∷ Some 255 ∷ None ∷ []
pairs_of_a_word = refl

address_read : pairs_read (codes "Ff:00:1a:A1:09:90") ≡ Some (record { 0 = 255 ∷ 0 ∷ 26 ∷ 161 ∷ 9 ∷ 144 ∷ [] })
address_read = refl

-- the word at a place is counted from 0
words_by_place : map (λ (i : ℕ). word_at i (codes "tx" ∷ codes "a" ∷ [])) (0 ∷ 1 ∷ 2 ∷ []) ≡ codes "tx" ∷ codes "a" ∷ [] ∷ []
words_by_place = refl

sides : map side_of (codes "tx" ∷ codes "rx" ∷ []) ≡ rings.Tx ∷ rings.Rx ∷ []
sides = refl

watched_sides : map sides_of (codes "t" ∷ codes "r" ∷ codes "tr" ∷ []) ≡ watched.T ∷ watched.R ∷ watched.TR ∷ []
watched_sides = refl

lowest_bits : map (λ (mask : ℕ). first_set mask 16) (0 ∷ 1 ∷ 40 ∷ 32768 ∷ []) ≡ 16 ∷ 0 ∷ 3 ∷ 15 ∷ []
unfolding lib.Count.count_trailing_zeros
lowest_bits = refl
