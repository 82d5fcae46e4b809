use Rattle.std.specs.Prelude.{◌≡◌, ℕ, ◌≤◌, List, ◌++◌, length, take, Option, None, Some, Result, MatchResult}

-- what a sink or a file holds once these bytes are added, where it tells what it holds
abbrev pub grown : Option (List ℕ) → List ℕ → Option (List ℕ)
grown None bytes = None
grown (Some held) bytes = Some (held ++ bytes)

-- it grew by the first `n` of the bytes
abbrev pub GrewBy : Option (List ℕ) → Option (List ℕ) → List ℕ → ℕ → Type 0
GrewBy old new bytes n = new ≡ grown old (take n bytes)

-- it grew by a prefix of the bytes, which may be none or all of them
pub record GrowsByPrefix (old new : Option (List ℕ)) (bytes : List ℕ) : Type 0 where
  pub count : ℕ
  pub within : count ≤ length bytes
  pub held : new ≡ grown old (take count bytes)

-- a call that writes these bytes: all of them, or by its failure a prefix
abbrev pub Writes : {T E : Type 0}
    → Option (List ℕ) → Option (List ℕ) → Result T E → List ℕ → Type 0
Writes old new result bytes =
    MatchResult result (λ _. new ≡ grown old bytes) (λ _. GrowsByPrefix old new bytes)
