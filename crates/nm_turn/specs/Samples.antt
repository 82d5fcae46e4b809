-- What the tests say of passes over numbers, and what they add.
use Rattle.std.specs.Prelude.{ℕ, zero, suc, ◌≡◌, ◌+◌, ◌*◌, List, [], ◌++◌, ◌∷◌}
use Rattle.nm_turn.specs.declared.pass.Pass.{Pass}
use Rattle.nm_turn.specs.declared.turn.Turn.{Turn}
use Rattle.nm_turn.specs.Numbered.{values}
use Rattle.nm_turn.specs.Passes.{Told}
use Rattle.nm_turn.specs.Turns.{IsPassOf, IsOutside, view_of}

-- these many numbers, each 2 more than the one before
unfoldable pub spread : ℕ → ℕ → List ℕ
spread first zero = []
spread first (suc count) = spread first count ++ (first + count * 2) ∷ []

-- each number is its own root
abbrev pub own_root : ℕ → ℕ → ℕ
own_root entry number = number

module _ {B : Type 0} where
  -- a pass of this turn that has not entered
  abbrev pub IsPassIn : Turn B ℕ (Unit {0}) → Pass B ℕ (Unit {0}) → Type 0
  IsPassIn turn pass = IsPassOf (λ b. tt) turn pass × IsOutside pass

  -- between two states of a pass these entries were added
  abbrev pub Adds : Pass B ℕ (Unit {0}) → Pass B ℕ (Unit {0}) → List (ℕ × ℕ) → Type 0
  Adds old new added = Told own_root (view_of old) (view_of new) (view_of new).seen added

  -- the pass has the same part of the whole
  abbrev pub KeepsPart : Pass B ℕ (Unit {0}) → Pass B ℕ (Unit {0}) → Type 0
  KeepsPart old new = (view_of new).part ≡ (view_of old).part

  -- these many numbers more, from this one on, are the pass's own
  abbrev pub AddsSpread : Pass B ℕ (Unit {0}) → Pass B ℕ (Unit {0}) → ℕ → ℕ → Type 0
  AddsSpread old new first count =
      values (view_of new).mine ≡ values (view_of old).mine ++ spread first count
