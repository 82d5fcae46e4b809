-- The entries before one.
use Rattle.std.proofs.Common.{ℕ, ◌≤◌, ◌≡◌, List, length, take, sym, take_all}

pub take_past : {X : Type 0} (xs : List X) (n : ℕ) → length xs ≤ n → xs ≡ take n xs
take_past xs n past = sym (take_all n xs past)
