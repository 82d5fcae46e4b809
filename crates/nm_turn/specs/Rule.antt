-- The rule of the table: word 0 is the turn, word 1 counts the history, word 2 those who wait, of which
-- nothing is known; slot 0 has the value.
use Rattle.std.specs.Prelude.{◌≡◌, ℕ, ◌<◌, ◌⊎◌, Bool, true, false, List, map, length, slice_get, slice_index, Option, Some, None, MatchOption}
use mathlib.Core.Option.{none, some}
use mathlib.Core.List.{IsPrefix}
use lib.ListN.{get_elem?}
use Rattle.atomic_table.specs.Table.{State}
use Rattle.nm_turn.specs.declared.view.Share.{Share}
use Rattle.nm_turn.specs.declared.view.TurnStage.{TurnStage}
use Rattle.nm_turn.specs.declared.view.TurnStage.TheVariants.{Outside, Inside, Out, Joining}
use Rattle.nm_turn.specs.declared.view.PassView.{PassView}
use Rattle.nm_turn.specs.Numbered.{owned, merged}
use Rattle.nm_turn.specs.Shares.{AddUp}
use Rattle.nm_turn.specs.Passes.{NoRootPast, AreTogether, AreWithin, Knows, spent_view}

-- a fact of each view, with its place among the views
abbrev pub Each : {V : Type 0} → (ℕ → V → Type 0) → List V → Type 0
Each {V} P views = (j : ℕ) (v : V) → get_elem? views j ≡ some v → P j v

abbrev pub part_of : {E F : Type 0} → PassView E F → Share
part_of v = v.part

module _ {E : Type 0} where
  -- a view has the turn exactly where it is the holder
  abbrev pub IsHolderAt : Option ℕ → ℕ → TurnStage E → Type 0
  IsHolderAt holder j Outside = ¬ (holder ≡ Some j)
  IsHolderAt holder j (Inside h) = holder ≡ Some j
  IsHolderAt holder j (Out h) = holder ≡ Some j
  IsHolderAt holder j (Joining k l) = ¬ (holder ≡ Some j)

  -- the holder knows the history, and whether the value is out
  abbrev pub HoldsAt : Bool → List E → TurnStage E → Type 0
  HoldsAt out history Outside = Unit {0}
  HoldsAt out history (Inside h) = (out ≡ false) × (h ≡ history)
  HoldsAt out history (Out h) = (out ≡ true) × (h ≡ history)
  HoldsAt out history (Joining k l) = Unit {0}

  -- what two passes knew, of which one was just joined into the other
  abbrev pub Learns : (E → ℕ → ℕ) → List E → List E → List (ℕ × E) → TurnStage E → Type 0
  Learns root history seen mine Outside = Unit {0}
  Learns root history seen mine (Inside h) = Unit {0}
  Learns root history seen mine (Out h) = Unit {0}
  Learns root history seen mine (Joining k l) =
      Knows root history k.seen k.mine × Knows root history l.seen l.mine
      × (mine ≡ merged k.mine l.mine)

pub record TurnRule {B E F : Type 0} (entries : B → List E) (fixed_of : B → F) (root : E → ℕ → ℕ)
    (same : F) (s : State (Option B) (PassView E F)) : Type 0 where
  pub history : List E
  -- the view that has the turn
  pub holder : Option ℕ
  -- the value is out with the holder
  pub out : Bool
  -- for each entry, the view that has it as its own
  pub owners : List ℕ
  pub three_words : length s.words ≡ 3
  -- word 0 is 1 exactly while one view has the turn
  pub one_holder :
      MatchOption holder (slice_index s.words 0 ≡ 0)
      (λ j. (slice_index s.words 0 ≡ 1) × (j < length s.views))
      × Each (λ j v. IsHolderAt holder j v.stage) s.views
  -- word 1 counts the one history
  pub counted : slice_index s.words 1 ≡ length history
  -- a value in its place stands for the history
  pub stands_for : (b : B) → get_elem? s.homes 0 ≡ some (some (Some b)) → entries b ≡ history
  -- only the holder has the value out, and it knows the history
  pub holder_only : (holder ≡ None → out ≡ false)
      × (out ≡ false → (b : B) × (get_elem? s.homes 0 ≡ some (some (Some b))))
      × (out ≡ true → get_elem? s.homes 0 ≡ some none)
      × Each (λ j v. HoldsAt out history v.stage) s.views
  -- what was seen is a beginning of the history
  pub seen_prefix : Each (λ j v. IsPrefix v.seen history) s.views
  -- each entry is one view's own, which has seen it
  pub owned_once : (length owners ≡ length history)
      × ((i o : ℕ) → slice_get owners i ≡ Some o → o < length s.views)
      × Each (λ j v. (v.mine ≡ owned j 1 owners history) × AreWithin (length v.seen) v.mine) s.views
  -- no entry past what was seen has its root among the view's own, and entries with one root are
  -- one view's
  pub mine_seen : Each (λ j v. NoRootPast root v.seen v.mine history
      × AreTogether root v.mine history × Learns root history v.seen v.mine v.stage) s.views
  -- what never changes is what it was at the opening
  pub fixed : (b : B) → get_elem? s.homes 0 ≡ some (some (Some b)) → fixed_of b ≡ same
  -- the shares make up the whole
  pub shares : AddUp (map part_of s.views)
  -- a spent view has no entries, no share and no turn
  pub spent : Each (λ j v. (v ≡ spent_view) ⊎ ((v.fixed ≡ Some same) × (0 < v.part.share))) s.views
