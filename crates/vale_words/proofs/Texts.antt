-- The bytes of a word are text.
use Rattle.std.proofs.Common.{◌≡◌, ℕ, zero, suc, ◌<◌, true, nat_le, List, [], ◌∷◌, length, arith}
use Rattle.std.proofs.lemmas.Bool.{and_parts, leb-true}
use Rattle.std.proofs.lemmas.Str.{IsUtf8-from_ascii}
use Rattle.std.specs.Str.{IsUtf8, IsAscii}
use Rattle.nm_types.specs.Names.{are_word_bytes}
use Rattle.vale_words.specs.Words.{is_graphic, are_graphic, has_bytes, has_up_to, is_user_name, is_file_name}
use Rattle.nm_types.proofs.NameBytes.{both, are-graphic}

low-byte : (b : ℕ) → is_graphic b ≡ true → b < 128
low-byte b h = let low = leb-true b 126 (and_parts (nat_le 33 b) (nat_le b 126) h).1 in omega (arith, low)

word-ascii : (bs : List ℕ) → are_graphic bs ≡ true → IsAscii bs
word-ascii [] h i = omega arith
word-ascii (b ∷ bs) h zero = low-byte b (and_parts (is_graphic b) (are_graphic bs) h).0
word-ascii (b ∷ bs) h (suc i) = word-ascii bs (and_parts (is_graphic b) (are_graphic bs) h).1 i

pub word_text : (bs : List ℕ) → is_file_name bs ≡ true → IsUtf8 bs
word_text bs h = IsUtf8-from_ascii bs (word-ascii bs (and_parts (has_bytes bs) (are_graphic bs) h).1)

pub name_file : (bs : List ℕ) → is_user_name bs ≡ true → is_file_name bs ≡ true
name_file bs h =
    let parts = and_parts (has_up_to 16 bs) (are_word_bytes bs) h in
    both (has_bytes bs) (are_graphic bs) (and_parts (has_bytes bs) (nat_le (length bs) 16) parts.0).0 (are-graphic bs parts.1)

pub name_text : (bs : List ℕ) → is_user_name bs ≡ true → IsUtf8 bs
name_text bs h = word_text bs (name_file bs h)

pub ruleset texts = (word_text, name_file, name_text)
