use Rattle.std.specs.Prelude.{◌≡◌, ℕ, ◌≤◌, List, ◌++◌, length, take, drop, Option, Result, MatchResult}
use Rattle.nm_io.specs.Held.{grown, GrowsByPrefix}

-- what a page held and then these bytes went on their way to a sink: the first `count` of them all
-- are there, and the page holds the rest
pub record Gathered (old_held new_held : Option (List ℕ)) (old_page new_page bytes : List ℕ)
    : Type 0 where
  pub count : ℕ
  pub within : count ≤ length (old_page ++ bytes)
  pub held : new_held ≡ grown old_held (take count (old_page ++ bytes))
  pub rest : new_page ≡ drop count (old_page ++ bytes)

-- a call that writes these bytes to a sink by way of a page: all of them, or by its failure a
-- prefix
abbrev pub Gathers : {T E : Type 0}
    → Option (List ℕ) → Option (List ℕ) → List ℕ → List ℕ → Result T E → List ℕ → Type 0
Gathers old_held new_held old_page new_page result bytes =
    MatchResult result (λ _. Gathered old_held new_held old_page new_page bytes)
    (λ _. GrowsByPrefix old_held new_held (old_page ++ bytes))
