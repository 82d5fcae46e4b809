-- What tests say, and what options hold.
use Rattle.std.proofs.Common.{ℕ, ◌≡◌, true, Option, Some, None, refl, rules}
use Rattle.std.specs.Prelude.{is_some, IsSome}

pub some_of : (o : Option ℕ) → is_some o ≡ true → IsSome o
some_of None e = absurd cc
some_of (Some i) e = search rules

pub some_true : (o : Option ℕ) → IsSome o → is_some o ≡ true
some_true None some = absurd cc
some_true (Some i) some = refl
