-- The numbers that digits write.
use Rattle.std.proofs.Common.{◌≡◌, ℕ, ◌+◌, ◌*◌, ◌-◌, ◌<◌, ◌≤◌, ◌/◌, ◌%◌, ◌^◌, List, [], ◌∷◌, ◌++◌, decimal, min, ap, ◌∙◌, arith}
use Rattle.std.proofs.lemmas.Fmt.{decimal_by_steps}
use Rattle.vale_fields.specs.Fields.{long_of, short_of, half_of}
use Rattle.vale_words.specs.Words.{number_of}
use Rattle.vale_words.proofs.Numerals.{number_after-push, number_more}

pub ruleset numerals = (number_more)

pub number-back : (n : ℕ) → n < 2 ^ 64 → number_of (decimal n) ≡ n
number-back n fits = decimal_by_steps (λ (n : ℕ) (ds : List ℕ). number_of ds ≡ n) one more n fits
  where
    one : (n : ℕ) → n < 10 → number_of ((48 + n) ∷ []) ≡ n
    one n small = omega arith

    more : (n : ℕ) (ds : List ℕ) → 10 ≤ n → number_of ds ≡ n / 10 → number_of (ds ++ ((48 + n % 10) ∷ [])) ≡ n
    more n ds big h =
        let step : number_of ds * 10 + (48 + n % 10 - 48) ≡ n = omega (arith, h) in
        number_after-push 0 ds (48 + n % 10) ∙ step

pub long-back : (n : ℕ) → n < 2 ^ 64 → long_of (decimal n) ≡ n
unfolding long_of
long-back n fits =
    let small : min n 18446744073709551615 ≡ n = omega arith in
    ap (λ (k : ℕ). min k 18446744073709551615) (number-back n fits) ∙ small

pub short-back : (n : ℕ) → n < 2 ^ 32 → short_of (decimal n) ≡ n
unfolding short_of
short-back n fits =
    let small : min n 4294967295 ≡ n = omega arith in
    ap (λ (k : ℕ). min k 4294967295) (long-back n (omega arith)) ∙ small

pub half-back : (n : ℕ) → n < 2 ^ 16 → half_of (decimal n) ≡ n
unfolding half_of
half-back n fits =
    let small : min n 65535 ≡ n = omega arith in
    ap (λ (k : ℕ). min k 65535) (long-back n (omega arith)) ∙ small

pub long-fits : (w : List ℕ) → long_of w < 2 ^ 64
unfolding long_of
long-fits w = omega arith

pub short-fits : (w : List ℕ) → short_of w < 2 ^ 32
unfolding short_of
short-fits w = omega arith

pub half-fits : (w : List ℕ) → half_of w < 2 ^ 16
unfolding half_of
half-fits w = omega arith
