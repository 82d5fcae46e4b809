-- What each step on the table tells.
use Rattle.std.specs.Prelude.{◌≡◌, ◌≢◌, ℕ, List, [], ◌∷◌, Option, Some, None}
use Rattle.atomic_table.specs.Table.{Me, Step}
use Rattle.nm_turn.specs.declared.view.TurnStage.{TurnStage}
use Rattle.nm_turn.specs.declared.view.TurnStage.TheVariants.{Outside, Inside, Out, Joining}
use Rattle.nm_turn.specs.declared.view.PassView.{PassView}
use Rattle.nm_turn.specs.Shares.{IsWhole}
use Rattle.nm_turn.specs.Passes.{Knows, HasAll, listed, at_stage, committed_view, released_view}

-- the view of a seat, and what it has in hand
abbrev pub Hand : Type 0 → Type 0 → Type 0 → Type 0
Hand B E F = Me (Option B) (PassView E F)

-- the entries of the value in hand
abbrev pub in_hand : {B E : Type 0} → (B → List E) → List (ℕ × Option B) → List E
in_hand entries [] = []
in_hand entries ((k, None) ∷ xs) = []
in_hand entries ((k, Some b) ∷ xs) = entries b

-- what both passes of a join knew, of one history
abbrev pub AreKnown : {E : Type 0} → (E → ℕ → ℕ) → List E → TurnStage E → Type 0
AreKnown root history Outside = Unit {0}
AreKnown root history (Inside h) = Unit {0}
AreKnown root history (Out h) = Unit {0}
AreKnown root history (Joining k l) =
    Knows root history k.seen k.mine × Knows root history l.seen l.mine

-- what a pass with the turn knows of the value
pub record IsGiven {B E F : Type 0} (entries : B → List E) (fixed_of : B → F) (root : E → ℕ → ℕ)
    (v : PassView E F) (b : B) : Type 0 where
  pub is_listed : entries b ≡ listed v.stage
  pub is_fixed : v.fixed ≡ Some (fixed_of b)
  pub knows : Knows root (entries b) v.seen v.mine
  pub has_all : IsWhole v.part → HasAll (entries b) v.seen v.mine

module _ {B E F : Type 0} where
  -- where the turn was free, the seat has it now
  abbrev pub takes_turn : Step (Option B) → Hand B E F → ℕ → Hand B E F → Type 0
  takes_turn st m found m' =
      (found ≡ 0 → (history : List E) × (m' ≡ (at_stage (Inside history) m.0, m.1)))
      × (found ≢ 0 → m' ≡ m)

  abbrev pub awaits : Step (Option B) → Hand B E F → ℕ → Hand B E F → Type 0
  awaits st m found m' = m' ≡ m

  abbrev pub takes_value : (B → List E) → (B → F) → (E → ℕ → ℕ)
      → Step (Option B) → Hand B E F → ℕ → Hand B E F → Type 0
  takes_value entries fixed_of root st m found m' = (b : B)
      × (m' ≡ (at_stage (Out (listed m.0.stage)) m.0, (0, Some b) ∷ m.1))
      × IsGiven entries fixed_of root m.0 b

  abbrev pub commits : (B → List E) → (E → ℕ → ℕ)
      → Step (Option B) → Hand B E F → ℕ → Hand B E F → Type 0
  commits entries root st m found m' = (m' ≡ (committed_view (in_hand entries m.1) m.0, m.1))
      × Knows root (listed m.0.stage) m.0.seen m.0.mine

  abbrev pub puts_value : (E → ℕ → ℕ) → Step (Option B) → Hand B E F → ℕ → Hand B E F → Type 0
  puts_value root st m found m' = (m' ≡ (at_stage (Inside (listed m.0.stage)) m.0, []))
      × Knows root (listed m.0.stage) m.0.seen m.0.mine

  abbrev pub releases : Step (Option B) → Hand B E F → ℕ → Hand B E F → Type 0
  releases st m found m' = m' ≡ (released_view m.0, m.1)

  abbrev pub learns : (E → ℕ → ℕ) → Step (Option B) → Hand B E F → ℕ → Hand B E F → Type 0
  learns root st m found m' = (m' ≡ (at_stage Outside m.0, m.1))
      × ((history : List E) × AreKnown root history m.0.stage
      × (IsWhole m.0.part → HasAll history m.0.seen m.0.mine))
