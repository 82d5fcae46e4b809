-- Cutting the first line off.
use Rattle.std.proofs.Common.{◌≡◌, ℕ, ◌+◌, ◌-◌, ◌<◌, ◌≤◌, Bool, true, false, cond, List, [], ◌∷◌, length, take, drop, get_or, nat_lt, ◌==◌, Option, Some, None, refl, sym, ap, ◌∙◌, arith}
use Rattle.std.specs.List.{position, position_or_len, slice_split}
use Rattle.std.specs.Str.Lines.{lines, lines_of_parts, strip_carriage_return}
use Rattle.std.proofs.lemmas.List.{take_rest}
use Rattle.std.proofs.lemmas.List.Splits.{slice_split_first, slice_split_none, length-slice_split}
use Rattle.std.proofs.lemmas.List.Sums.{fails_before_first, position_or_len_is}
use Rattle.std.proofs.lemmas.Bool.{cond-true, cond-false, lt-ltb, le-ltb}
use Rattle.memchr.specs.Find.{IsFirstByte}
use Rattle.std.proofs.lemmas.List.Quantifiers.{position-Some}
use Rattle.std.proofs.lemmas.Bool.Decides.{nat_tests}
use Rattle.std.proofs.Math.Seq.{drop-length}
use Rattle.vale_words.proofs.Positions.{not_found}
use Rattle.vale_script.specs.Grammar.{is_line_feed}

pub parts_more : (x : List ℕ) (parts : List (List ℕ)) → 0 < length parts → lines_of_parts (x ∷ parts) ≡ strip_carriage_return x ∷ lines_of_parts parts
parts_more x [] there = absurd (omega arith)
parts_more x (y ∷ more) there = refl

found : (k n m : ℕ) (b : Bool) → b ≡ nat_lt k m → cond b (Some k) None ≡ Some n → (k ≡ n) × (nat_lt k m ≡ true)
found k n m true same is = (cc, sym same)
found k n m false same is = cc

-- a line that ends with a line feed
pub lines_found : (bytes : List ℕ) (n : ℕ) → position is_line_feed bytes ≡ Some n → lines bytes ≡ strip_carriage_return (take n bytes) ∷ lines (take (length bytes - (n + 1)) (drop (n + 1) bytes))
lines_found bytes n is =
    let at = found (position_or_len is_line_feed bytes) n (length bytes) (nat_lt (position_or_len is_line_feed bytes) (length bytes)) refl is in
    let inside : n < length bytes = (position-Some is_line_feed bytes n 0 is).0 in
    let below : position_or_len is_line_feed bytes < length bytes = omega (arith, inside, at.0) in
    let after : List ℕ = drop (n + 1) bytes in
    let split : slice_split is_line_feed bytes ≡ take n bytes ∷ slice_split is_line_feed after =
    slice_split_first is_line_feed bytes 0 below ∙ ap (λ k. take k bytes ∷ slice_split is_line_feed (drop (k + 1) bytes)) at.0 in
    let some : 0 < length (slice_split is_line_feed after) = omega (arith, length-slice_split is_line_feed after) in
    ap lines_of_parts split ∙ parts_more (take n bytes) (slice_split is_line_feed after) some
    ∙ ap (λ rest. strip_carriage_return (take n bytes) ∷ lines rest) (sym (take_rest bytes (n + 1)))

-- without a line feed the bytes are the last line
pub lines_none : (bytes : List ℕ) → 0 < length bytes → position is_line_feed bytes ≡ None → lines bytes ≡ bytes ∷ lines (take (length bytes - length bytes) (drop (length bytes) bytes))
lines_none bytes some is =
    let past : nat_lt (position_or_len is_line_feed bytes) (length bytes) ≡ false = not_found (position_or_len is_line_feed bytes) (length bytes) (nat_lt (position_or_len is_line_feed bytes) (length bytes)) refl is in
    let all : length bytes ≤ position_or_len is_line_feed bytes = grind (arith, nat_tests, past) in
    let split : slice_split is_line_feed bytes ≡ bytes ∷ [] =
    slice_split_none is_line_feed bytes (λ k d h. fails_before_first is_line_feed bytes k d (omega arith)) in
    let test : (length bytes == 0) ≡ false = grind (arith, nat_tests) in
    ap lines_of_parts split ∙ ap (λ b. cond b [] (bytes ∷ [])) test
    ∙ ap (λ rest. bytes ∷ lines rest) (sym (take_rest bytes (length bytes) ∙ drop-length bytes))

not-true : (b : Bool) → (b ≡ true → ⊥) → b ≡ false
not-true true h = absurd (h refl)
not-true false h = refl

-- the first byte that passes a test is where a search finds it
pub first_byte : (test : ℕ → Bool) (bytes : List ℕ) (r : Option ℕ) → IsFirstByte test bytes r → r ≡ position test bytes
first_byte test bytes None h =
    let is : position_or_len test bytes ≡ length bytes =
    position_or_len_is test bytes (length bytes) 0 (omega arith) (λ k low. not-true (test (get_or bytes k 0)) (h k (omega arith) low)) (λ past. absurd (omega (arith, past))) in
    sym (cond-false (nat_lt (position_or_len test bytes) (length bytes)) (Some (position_or_len test bytes)) None (le-ltb (position_or_len test bytes) (length bytes) (omega (arith, is))))
first_byte test bytes (Some n) h =
    let is : position_or_len test bytes ≡ n =
    position_or_len_is test bytes n 0 (omega (arith, h.0.high)) (λ k low. not-true (test (get_or bytes k 0)) (h.0.before k (omega arith) low)) (λ inside. h.1) in
    sym (cond-true (nat_lt (position_or_len test bytes) (length bytes)) (Some (position_or_len test bytes)) None (lt-ltb (position_or_len test bytes) (length bytes) (omega (arith, is, h.0.high)))
    ∙ ap (λ (k : ℕ). Some k) is)

pub ruleset cuts = (lines_found, lines_none)
