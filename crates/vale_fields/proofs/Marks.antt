-- Where the first mark of a text stands.
use Rattle.std.specs.List.{position, position_or_len}
use Rattle.std.proofs.Common.{◌≡◌, ℕ, Bool, true, false, List, length, get_or, nat_lt, Option, Some, None, refl, sym, ap, ◌∙◌, arith}
use Rattle.std.proofs.lemmas.List.Sums.{position_or_len_is}
use Rattle.std.proofs.lemmas.Bool.{cond-true, cond-false, lt-ltb, le-ltb}
use Rattle.memchr.specs.Find.{IsFirstByte}

not-true : (b : Bool) → (b ≡ true → ⊥) → b ≡ false
not-true true h = absurd (h refl)
not-true false h = refl

-- the first byte that passes a test is where a search finds it
pub first_byte : (test : ℕ → Bool) (bytes : List ℕ) (r : Option ℕ) → IsFirstByte test bytes r → r ≡ position test bytes
first_byte test bytes None h =
    let is : position_or_len test bytes ≡ length bytes =
    position_or_len_is test bytes (length bytes) 0 (omega arith) (λ k low. not-true (test (get_or bytes k 0)) (h k (omega arith) low)) (λ past. absurd (omega (arith, past))) in
    sym (cond-false (nat_lt (position_or_len test bytes) (length bytes)) (Some (position_or_len test bytes)) None (le-ltb (position_or_len test bytes) (length bytes) (omega (arith, is))))
first_byte test bytes (Some n) h =
    let is : position_or_len test bytes ≡ n =
    position_or_len_is test bytes n 0 (omega (arith, h.0.high)) (λ k low. not-true (test (get_or bytes k 0)) (h.0.before k (omega arith) low)) (λ inside. h.1) in
    sym (cond-true (nat_lt (position_or_len test bytes) (length bytes)) (Some (position_or_len test bytes)) None (lt-ltb (position_or_len test bytes) (length bytes) (omega (arith, is, h.0.high)))
    ∙ ap (λ (k : ℕ). Some k) is)
