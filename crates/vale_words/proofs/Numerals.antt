-- A number that is kept below a cap.
use Rattle.std.proofs.Common.{◌≡◌, ℕ, zero, suc, ◌+◌, ◌*◌, ◌-◌, ◌<◌, Bool, true, false, ◌&&◌, slice_index, arith, List, [], ◌∷◌, ◌++◌, length, take, get_or, refl, ap, ◌∙◌}
use Rattle.std.proofs.lemmas.List.{take_more}
use Rattle.std.proofs.lemmas.Bool.{and_parts}
use Rattle.vale_words.specs.Words.{number_after, number_of, is_hex, are_hex, is_pair_at}

pub number_after-push : (n : ℕ) (bs : List ℕ) (b : ℕ) → number_after n (bs ++ b ∷ []) ≡ number_after n bs * 10 + (b - 48)
number_after-push n [] b = refl
number_after-push n (c ∷ cs) b = number_after-push (n * 10 + (c - 48)) cs b

pub number_more : (bs : List ℕ) (i : ℕ) → i < length bs → number_of (take (i + 1) bs) ≡ number_of (take i bs) * 10 + (get_or bs i 0 - 48)
number_more bs i h = ap number_of (take_more bs i 0 h) ∙ number_after-push 0 (take i bs) (get_or bs i 0)

pub ruleset numerals = (number_more)

-- digits at each place
hex-at : (word : List ℕ) (k : ℕ) → k < length word → are_hex word ≡ true → is_hex (slice_index word k) ≡ true
hex-at [] k within all = absurd (omega arith)
hex-at (b ∷ bs) zero within all = (and_parts (is_hex b) (are_hex bs) all).0
hex-at (b ∷ bs) (suc k) within all = hex-at bs k (omega arith) (and_parts (is_hex b) (are_hex bs) all).1

pub pair_of_hex : (word : List ℕ) (k : ℕ) → k + 1 < length word → are_hex word ≡ true → is_pair_at word k ≡ true
pair_of_hex word k within all = both (is_hex (slice_index word k)) (is_hex (slice_index word (k + 1))) (hex-at word k (omega arith) all) (hex-at word (k + 1) within all)
  where
    both : (a b : Bool) → a ≡ true → b ≡ true → (a && b) ≡ true
    both true b p q = q
    both false b p q = absurd cc

pub ruleset pairs = (pair_of_hex)
