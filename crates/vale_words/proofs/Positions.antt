-- Where the first byte that passes a test stands, if there is one.
use Rattle.std.proofs.Common.{◌≡◌, ℕ, ◌<◌, ◌≤◌, Bool, true, false, cond, List, length, get_or, nat_lt, Some, None, refl, sym, arith}
use Rattle.std.specs.List.{position, position_or_len}
use Rattle.std.proofs.lemmas.List.Sums.{fails_before_first}
use Rattle.std.proofs.lemmas.Bool.{ltb-false}

pub not_found : (k m : ℕ) (b : Bool) → b ≡ nat_lt k m → cond b (Some k) None ≡ None → nat_lt k m ≡ false
not_found k m true same is = cc
not_found k m false same is = sym same

-- no byte passes a test that is passed nowhere
pub none_passes : (test : ℕ → Bool) (bytes : List ℕ) → position test bytes ≡ None → (k d : ℕ) → k < length bytes → test (get_or bytes k d) ≡ false
none_passes test bytes is k d low =
    let past : nat_lt (position_or_len test bytes) (length bytes) ≡ false = not_found (position_or_len test bytes) (length bytes) (nat_lt (position_or_len test bytes) (length bytes)) refl is in
    let all : length bytes ≤ position_or_len test bytes = ltb-false (position_or_len test bytes) (length bytes) past in
    fails_before_first test bytes k d (omega (arith, low, all))
