-- Where a word ends, from the bytes before it that are of the word.
use Rattle.std.proofs.Common.{◌≡◌, ℕ, ◌+◌, ◌<◌, ◌≤◌, Bool, true, false, not, List, length, get_or, nat_lt, Some, None, sym, ap, ◌∙◌, arith, inl, inr}
use Rattle.std.specs.List.{position, position_or_len}
use Rattle.std.proofs.lemmas.Bool.{cond-true, cond-false, lt-ltb, le-ltb, cases_lt}
use Rattle.std.proofs.lemmas.List.Sums.{position_or_len_is}
use Rattle.vale_words.specs.Lanes.{AllPassBetween, IsRunIn}
use Rattle.vale_words.specs.Words.{is_graphic}

abbrev ends : ℕ → Bool
ends b = not (is_graphic b)

-- a byte that is not of the word
pub ends_at : (bytes : List ℕ) (n : ℕ) → n < length bytes → AllPassBetween is_graphic bytes 0 n → is_graphic (get_or bytes n 0) ≡ false
    → Some n ≡ position (λ b. not (is_graphic b)) bytes
ends_at bytes n low before here =
    let is : position_or_len ends bytes ≡ n =
    position_or_len_is ends bytes n 0 (omega (arith, low)) (λ k less. ap not (before k (omega arith) less)) (λ inside. ap not here) in
    sym (cond-true (nat_lt (position_or_len ends bytes) (length bytes)) (Some (position_or_len ends bytes)) None (lt-ltb (position_or_len ends bytes) (length bytes) (omega (arith, is, low)))
    ∙ ap (λ (k : ℕ). Some k) is)

-- none but those of the word
pub ends_nowhere : (bytes : List ℕ) (n : ℕ) → length bytes ≤ n → AllPassBetween is_graphic bytes 0 n → None ≡ position (λ b. not (is_graphic b)) bytes
ends_nowhere bytes n past before =
    let is : position_or_len ends bytes ≡ length bytes =
    position_or_len_is ends bytes (length bytes) 0 (omega arith) (λ k less. ap not (before k (omega arith) (omega (arith, less, past)))) (λ inside. absurd (omega (arith, inside))) in
    sym (cond-false (nat_lt (position_or_len ends bytes) (length bytes)) (Some (position_or_len ends bytes)) None (le-ltb (position_or_len ends bytes) (length bytes) (omega (arith, is))))

-- one byte more
pub one_byte : (bytes : List ℕ) (n m : ℕ) → m ≡ n + 1 → AllPassBetween is_graphic bytes 0 n → is_graphic (get_or bytes n 0) ≡ true → AllPassBetween is_graphic bytes 0 m
one_byte bytes n m next before here k from to =
    elim (cases_lt k n) [
      | inl early ↦ before k from early
      | inr late ↦ let same : n ≡ k = omega (arith, late, to, next) in ap (λ (j : ℕ). is_graphic (get_or bytes j 0)) (sym same) ∙ here
    ]

-- the bytes of a load behind them
pub run_more : (bytes : List ℕ) (from n run m : ℕ) → m ≤ from + run → AllPassBetween is_graphic bytes 0 from → IsRunIn is_graphic bytes from n run → AllPassBetween is_graphic bytes 0 m
run_more bytes from n run m few before load k least to =
    elim (cases_lt k from) [
      | inl early ↦ before k least early
      | inr late ↦ load.0.1 k late (omega (arith, to, few))
    ]

-- a load with a byte that is not of the word
pub ends_in_load : (bytes : List ℕ) (from n run : ℕ) → from + n ≤ length bytes → run < n → AllPassBetween is_graphic bytes 0 from → IsRunIn is_graphic bytes from n run
    → Some (from + run) ≡ position (λ b. not (is_graphic b)) bytes
ends_in_load bytes from n run room short before load =
    ends_at bytes (from + run) (omega (arith, room, short)) (run_more bytes from n run (from + run) (omega arith) before load) (load.1 short)
