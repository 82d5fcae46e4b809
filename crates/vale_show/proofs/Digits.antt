-- What `parse` reads of a word of digits is the number that a script reads there.
use Rattle.std.proofs.Common.{ℕ, ◌<◌, ◌≤◌, ◌≡◌, ◌&&◌, nat_lt, nat_le, Bool, true, false, cond, List, length, Some, None, Result, Ok, Err, refl, sym, ◌∙◌, ap, arith}
use Rattle.std.specs.List.{list_all}
use Rattle.std.specs.Result.{result_ok}
use Rattle.std.specs.Str.Parse.{ParsesUnsigned}
use Rattle.std.proofs.lemmas.Bool.{leb-true, ltb-true, le-leb, lt-ltb, and_parts, and_from}
use Rattle.std.proofs.lemmas.Str.Parse.{IsDigitsTest, FoldsDigits, IsNumeralModel, numerals_by_fold, parse_digits}
use Rattle.vale_words.specs.Words.{is_digit, are_digits, number_after, number_of, number_in}
use Rattle.vale_show.specs.Show.{most_number}

tells-digits : IsDigitsTest (λ ds. are_digits ds ≡ true)
tells-digits = record {
  empty = refl;
  parts = λ c cs e.
      let k = and_parts (is_digit c) (list_all is_digit cs) e in
      let m = and_parts (nat_le 48 c) (nat_le c 57) k.0 in
      ((leb-true 48 c m.0, leb-true c 57 m.1), k.1);
  more = λ c cs k e.
      and_from (is_digit c) (list_all is_digit cs)
      (and_from (nat_le 48 c) (nat_le c 57) (le-leb 48 c k.0) (le-leb c 57 k.1)) e;
}

folds : FoldsDigits number_after
folds = record { empty = λ n. refl; more = λ n c cs k. refl }

own : IsNumeralModel (λ ds. are_digits ds ≡ true) number_of
own = numerals_by_fold (λ ds. are_digits ds ≡ true) tells-digits number_after folds

-- the word is short and of digits
by-parts : (word : List ℕ) (some short : Bool) → are_digits word ≡ true
    → (a : nat_lt 0 (length word) ≡ some) (b : nat_le (length word) 20 ≡ short)
    → number_in 0 most_number word
    ≡ cond (some && (short && nat_le (number_of word) most_number)) (Some (number_of word)) None
unfolding number_in
by-parts word true true digits a b =
    let least : nat_le 0 (number_of word) ≡ true = le-leb 0 (number_of word) (omega arith) in
    rw (a, b, digits, least) refl
by-parts word true false digits a b = rw (a, b) refl
by-parts word false short digits a b = rw a refl

pub parsed-is : {E : Type 0} (word : List ℕ) (r : Result ℕ E) → length word ≤ 20
    → are_digits word ≡ true → ParsesUnsigned 32 10 word r
    → result_ok r ≡ number_in 0 most_number word
parsed-is {E} word (Ok x) short digits parses =
    let read = parse_digits own {E = E} 32 word (Ok x) parses digits in
    let fits : number_of word ≤ 4294967295 = (let small = read.0.1 in omega (arith, small)) in
    sym (by-parts word true true digits (lt-ltb 0 (length word) read.0.0)
    (le-leb (length word) 20 short)
    ∙ ap (λ (b : Bool). cond b (Some (number_of word)) None) (le-leb (number_of word) most_number fits)
    ∙ ap Some (sym read.1))
parsed-is {E} word (Err e) short digits parses = by (nat_lt 0 (length word)) (nat_le (number_of word) most_number) refl refl
  where
    by : (some fits : Bool) → nat_lt 0 (length word) ≡ some → nat_le (number_of word) most_number ≡ fits
        → None ≡ number_in 0 most_number word
    by false fits a b = sym (by-parts word false true digits a (le-leb (length word) 20 short))
    by true false a b = sym
        (by-parts word true true digits a (le-leb (length word) 20 short)
        ∙ ap (λ (b : Bool). cond b (Some (number_of word)) None) b)
    by true true a b =
        let small = leb-true (number_of word) 4294967295 b in
        absurd (parse_digits own {E = E} 32 word (Err e) parses digits (ltb-true 0 (length word) a, omega (arith, small)))

-- any other word is no number
pub long-is : (word : List ℕ) → 20 < length word → number_in 0 most_number word ≡ None
unfolding number_in
long-is word long = by (nat_lt 0 (length word)) (nat_le (length word) 20) refl
  where
    by : (some short : Bool) → nat_le (length word) 20 ≡ short
        → cond (((some && short) && are_digits word) && (nat_le 0 (number_of word) && nat_le (number_of word) most_number)) (Some (number_of word)) None ≡ None
    by some true is = let few = leb-true (length word) 20 is in absurd (omega (arith, few, long))
    by true false is = refl
    by false false is = refl

pub other-is : (word : List ℕ) → are_digits word ≡ false → number_in 0 most_number word ≡ None
unfolding number_in
other-is word other = by (nat_lt 0 (length word) && nat_le (length word) 20)
  where
    by : (fits : Bool) → cond ((fits && are_digits word) && (nat_le 0 (number_of word) && nat_le (number_of word) most_number)) (Some (number_of word)) None ≡ None
    by true = rw other refl
    by false = refl
