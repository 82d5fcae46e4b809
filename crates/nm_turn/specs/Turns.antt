-- What contracts say of a turn and its passes.
use Rattle.std.specs.Prelude.{◌≡◌, ℕ, ◌+◌, ◌<◌, ◌⊎◌, List, [], ◌∷◌, ◌++◌, length, Option, Some, None}
use Rattle.nm_turn.specs.declared.pass.Pass.{Pass}
use Rattle.nm_turn.specs.declared.turn.Turn.{Turn}
use Rattle.nm_turn.specs.declared.view.TurnStage.TheVariants.{Outside, Inside, Out}
use Rattle.nm_turn.specs.declared.view.PassView.{PassView}
use Rattle.nm_turn.specs.Numbered.{Stands}
use Rattle.nm_turn.specs.Passes.{Knows, listed, at_stage, new_since}

-- one more entry, whose root is its own number or one of these
abbrev pub AddsOne : {E : Type 0} → (E → ℕ → ℕ) → List E → List (ℕ × E) → List E → Type 0
AddsOne {E} root history mine entries =
    (e : E) × (entries ≡ history ++ e ∷ [])
    × ((root e (length history + 1) ≡ length history + 1)
    ⊎ Stands (root e (length history + 1)) mine)

module _ {B E F : Type 0} where
  abbrev pub view_of : Pass B E F → PassView E F
  view_of pass = pass.seat.me.0

  -- the place of the value, while the pass has it
  abbrev pub hand_of : Pass B E F → List (ℕ × Option B)
  hand_of pass = pass.seat.me.1

  -- the entries of the value that the pass was given
  abbrev pub entered : Pass B E F → List E
  entered pass = listed (view_of pass).stage

  -- the value that the turn was opened with
  abbrev pub opened : Turn B E F → B
  opened turn = turn.table.shared.key.value

  abbrev pub IsPassOf : (B → F) → Turn B E F → Pass B E F → Type 0
  IsPassOf fixed turn pass = (pass.seat.table_id ≡ turn.table.shared.table_id)
      × ((view_of pass).fixed ≡ Some (fixed (opened turn))) × (0 < (view_of pass).part.share)

  -- the pass has not entered
  abbrev pub IsOutside : Pass B E F → Type 0
  IsOutside pass = ((view_of pass).stage ≡ Outside) × (hand_of pass ≡ [])

  abbrev pub HasEntered : Pass B E F → Type 0
  HasEntered pass =
      ((view_of pass).stage ≡ Out (entered pass)) × (hand_of pass ≡ (0, None) ∷ [])

  -- the same pass, which has the turn now
  abbrev pub HasTurn : Pass B E F → Pass B E F → Type 0
  HasTurn old new = (new.seat.table_id ≡ old.seat.table_id) × (new.seat.id ≡ old.seat.id)
      × ((history : List E) × (new.seat.me ≡ (at_stage (Inside history) (view_of old), [])))

-- the pass has the value in hand again, with its new entries made the pass's own
pub record HasWritten {B E F : Type 0} (entries : B → List E) (root : E → ℕ → ℕ)
    (old new : Pass B E F) (value : B) : Type 0 where
  pub same_seat : (new.seat.table_id ≡ old.seat.table_id) × (new.seat.id ≡ old.seat.id)
  pub in_hand : hand_of new ≡ (0, Some value) ∷ []
  pub stage : (view_of new).stage ≡ Out (entries value)
  pub fixed : (view_of new).fixed ≡ (view_of old).fixed
  pub part : (view_of new).part ≡ (view_of old).part
  pub mine : (view_of new).mine ≡ (view_of old).mine ++ new_since (entered old) (entries value)
  pub known : Knows root (entries value) (view_of new).seen (view_of new).mine
      → Knows root (entered old) (view_of old).seen (view_of old).mine
