-- Cutting the words of a line off, one after another, where each byte is one of a line.
use Rattle.std.proofs.Common.{◌≡◌, ℕ, zero, suc, ◌+◌, ◌<◌, Bool, true, false, not, ◌&&◌, List, [], ◌∷◌, ◌++◌, length, take, drop, get_or, filter, Some, None, refl, sym, ap, ◌∙◌, arith, append_assoc}
use Rattle.std.specs.List.{position, position_or_len, slice_split}
use Rattle.std.proofs.lemmas.Bool.Decides.{nat_tests}
use Rattle.std.proofs.lemmas.List.Elements.{filter-append}
use Rattle.std.proofs.lemmas.List.Quantifiers.{position-Some}
use Rattle.std.proofs.lemmas.List.Splits.{slice_split_first, slice_split_none}
use Rattle.std.proofs.lemmas.List.Sums.{position_or_len_is}
use Rattle.vale_words.specs.Words.{is_blank, has_bytes, words_of, is_graphic, is_line_byte, are_line_bytes}
use Rattle.vale_words.proofs.Positions.{none_passes}

abbrev ends : ℕ → Bool
ends b = not (is_graphic b)

no-blank : (b : ℕ) → not (is_graphic b) ≡ false → is_blank b ≡ false
no-blank b h = grind (arith, nat_tests)

line-byte : (b : ℕ) → not (is_graphic b) ≡ false → is_line_byte b ≡ true
line-byte b h = grind (arith, nat_tests)

odd-byte : (b : ℕ) → not (is_graphic b) ≡ true → is_blank b ≡ false → is_line_byte b ≡ false
odd-byte b h k = grind (arith, nat_tests)

blank-byte : (b : ℕ) → is_blank b ≡ true → is_line_byte b ≡ true
blank-byte b h = grind (arith, nat_tests)

with-true : (a b : Bool) → a ≡ true → (a && b) ≡ b
with-true true b h = refl
with-true false b h = absurd cc

with-false : (a b : Bool) → a ≡ false → (a && b) ≡ false
with-false false b h = refl
with-false true b h = absurd cc

-- what a line of line bytes up to a place still has to be
line-from : (bytes : List ℕ) (n : ℕ) → n < length bytes → ((k : ℕ) → k < n → is_line_byte (get_or bytes k 0) ≡ true)
    → are_line_bytes bytes ≡ (is_line_byte (get_or bytes n 0) && are_line_bytes (drop (n + 1) bytes))
line-from [] n low all = absurd (omega arith)
line-from (b ∷ bs) zero low all = refl
line-from (b ∷ bs) (suc n) low all =
    let next : suc n + 1 ≡ suc (n + 1) = omega arith in
    with-true (is_line_byte b) (are_line_bytes bs) (all 0 (omega arith))
    ∙ line-from bs n (omega (arith, low)) (λ k less. all (suc k) (omega (arith, less)))
    ∙ ap (λ (m : ℕ). is_line_byte (get_or bs n 0) && are_line_bytes (drop m (b ∷ bs))) (sym next)

all-line : (bytes : List ℕ) → ((k : ℕ) → k < length bytes → is_line_byte (get_or bytes k 0) ≡ true) → are_line_bytes bytes ≡ true
all-line [] all = refl
all-line (b ∷ bs) all =
    with-true (is_line_byte b) (are_line_bytes bs) (all 0 (omega arith)) ∙ all-line bs (λ k less. all (suc k) (omega (arith, less)))

first-of : (word : List ℕ) (words : List (List ℕ)) → filter has_bytes (word ∷ words) ≡ filter has_bytes (word ∷ []) ++ filter has_bytes words
first-of word words = filter-append has_bytes (word ∷ []) words

-- a word that ends at a blank
pub line_goes_on : (bytes : List ℕ) (n : ℕ) → position (λ b. not (is_graphic b)) bytes ≡ Some n → is_blank (get_or bytes n 0) ≡ true → are_line_bytes (drop (n + 1) bytes) ≡ are_line_bytes bytes
line_goes_on bytes n is blank =
    let at = position-Some ends bytes n 0 is in
    sym (line-from bytes n at.0 (λ k less. line-byte (get_or bytes k 0) (at.2 k less)) ∙ with-true (is_line_byte (get_or bytes n 0)) (are_line_bytes (drop (n + 1) bytes)) (blank-byte (get_or bytes n 0) blank))

pub words_go_on : (bytes : List ℕ) (n : ℕ) → position (λ b. not (is_graphic b)) bytes ≡ Some n → is_blank (get_or bytes n 0) ≡ true
    → words_of bytes ≡ filter has_bytes (take n bytes ∷ []) ++ words_of (drop (n + 1) bytes)
words_go_on bytes n is blank =
    let at = position-Some ends bytes n 0 is in
    let first : position_or_len is_blank bytes ≡ n =
    position_or_len_is is_blank bytes n 0 (omega (arith, at.0)) (λ k less. no-blank (get_or bytes k 0) (at.2 k less)) (λ inside. blank) in
    let split : slice_split is_blank bytes ≡ take n bytes ∷ slice_split is_blank (drop (n + 1) bytes) =
    slice_split_first is_blank bytes 0 (omega (arith, first, at.0)) ∙ ap (λ (k : ℕ). take k bytes ∷ slice_split is_blank (drop (k + 1) bytes)) first in
    ap (filter has_bytes) split ∙ first-of (take n bytes) (slice_split is_blank (drop (n + 1) bytes))

-- a byte that no line has
pub line_is_odd : (bytes : List ℕ) (n : ℕ) → position (λ b. not (is_graphic b)) bytes ≡ Some n → is_blank (get_or bytes n 0) ≡ false → are_line_bytes bytes ≡ false
line_is_odd bytes n is odd =
    let at = position-Some ends bytes n 0 is in
    line-from bytes n at.0 (λ k less. line-byte (get_or bytes k 0) (at.2 k less)) ∙ with-false (is_line_byte (get_or bytes n 0)) (are_line_bytes (drop (n + 1) bytes)) (odd-byte (get_or bytes n 0) at.1 odd)

-- the last word
pub line_ends : (bytes : List ℕ) → position (λ b. not (is_graphic b)) bytes ≡ None → are_line_bytes bytes ≡ true
line_ends bytes is = all-line bytes (λ k less. line-byte (get_or bytes k 0) (none_passes ends bytes is k 0 less))

pub words_end : (bytes : List ℕ) → position (λ b. not (is_graphic b)) bytes ≡ None → words_of bytes ≡ filter has_bytes (bytes ∷ [])
words_end bytes is =
    ap (filter has_bytes) (slice_split_none is_blank bytes (λ k d less. no-blank (get_or bytes k d) (none_passes ends bytes is k d less)))

-- the words so far, with one more
pub one_more : (ws all : List (List ℕ)) (bytes : List ℕ) (n : ℕ) → position (λ b. not (is_graphic b)) bytes ≡ Some n → is_blank (get_or bytes n 0) ≡ true → ws ++ words_of bytes ≡ all
    → (ws ++ filter has_bytes (take n bytes ∷ [])) ++ words_of (drop (n + 1) bytes) ≡ all
one_more ws all bytes n is blank so =
    append_assoc ws (filter has_bytes (take n bytes ∷ [])) (words_of (drop (n + 1) bytes)) ∙ ap (λ (rest : List (List ℕ)). ws ++ rest) (sym (words_go_on bytes n is blank)) ∙ so

pub ruleset plain = (line_goes_on, words_go_on, line_is_odd, line_ends, words_end)
