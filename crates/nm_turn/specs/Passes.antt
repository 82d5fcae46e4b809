-- What a pass knows.
use Rattle.std.specs.Prelude.{◌≡◌, ℕ, ◌+◌, ◌-◌, ◌<◌, ◌≤◌, nat_le, if◌then◌else◌, List, [], ◌++◌, length, drop, slice_get, Some, None}
use mathlib.Core.List.{IsPrefix}
use Rattle.nm_turn.specs.declared.view.Known.{Known}
use Rattle.nm_turn.specs.declared.view.TurnStage.{TurnStage}
use Rattle.nm_turn.specs.declared.view.TurnStage.TheVariants.{Outside, Inside, Out, Joining}
use Rattle.nm_turn.specs.declared.view.PassView.{PassView}
use Rattle.nm_turn.specs.Numbered.{numbered, merged, Stands, IsPicked}
pub use Rattle.nm_turn.specs.Shares.{IsWhole}
use Rattle.nm_turn.specs.Shares.{whole, nothing, half, both_parts}

-- no entry of the history past what was seen has its root among these
abbrev pub NoRootPast : {E : Type 0}
    → (E → ℕ → ℕ) → List E → List (ℕ × E) → List E → Type 0
NoRootPast {E} root seen mine history = (at : ℕ) (e : E)
    → length seen ≤ at → slice_get history at ≡ Some e → ¬ Stands (root e (at + 1)) mine

-- an entry whose root is among these is among them
abbrev pub AreTogether : {E : Type 0} → (E → ℕ → ℕ) → List (ℕ × E) → List E → Type 0
AreTogether {E} root mine history = (at : ℕ) (e : E)
    → slice_get history at ≡ Some e → Stands (root e (at + 1)) mine → Stands (at + 1) mine

-- each number of the list is at most this
abbrev pub AreWithin : {E : Type 0} → ℕ → List (ℕ × E) → Type 0
AreWithin n mine = (number : ℕ) → Stands number mine → number ≤ n

-- what a pass knows of the history
pub record Knows {E : Type 0}
    (root : E → ℕ → ℕ) (history seen : List E) (mine : List (ℕ × E)) : Type 0 where
  pub begins : IsPrefix seen history
  pub no_root : NoRootPast root seen mine history
  pub together : AreTogether root mine history
  pub stands : IsPicked mine (numbered 1 seen)

-- a pass that has the whole has seen and made the whole history
pub record HasAll {E : Type 0} (history seen : List E) (mine : List (ℕ × E)) : Type 0 where
  pub all_seen : seen ≡ history
  pub all_mine : mine ≡ numbered 1 history

-- the entries of a longer history that a shorter one lacks, with their numbers
abbrev pub new_since : {E : Type 0} → List E → List E → List (ℕ × E)
new_since before after = drop (length before) (numbered 1 after)

abbrev pub longer : {E : Type 0} → List E → List E → List E
longer xs ys = if nat_le (length ys) (length xs) then xs else ys

-- the history that a pass with the turn knows
abbrev pub listed : {E : Type 0} → TurnStage E → List E
listed Outside = []
listed (Inside history) = history
listed (Out history) = history
listed (Joining one other) = []

module _ {E F : Type 0} where
  abbrev pub first_view : F → PassView E F
  first_view f = record { fixed = Some f; seen = []; mine = []; part = whole; stage = Outside }

  abbrev pub spent_view : PassView E F
  spent_view = record { fixed = None; seen = []; mine = []; part = nothing; stage = Outside }

  abbrev pub at_stage : TurnStage E → PassView E F → PassView E F
  at_stage stage v = record v { stage = stage }

  -- the history has become this list: what is new in it is the pass's own
  abbrev pub committed_view : List E → PassView E F → PassView E F
  committed_view history v = record v {
    seen = history;
    mine = v.mine ++ new_since (listed v.stage) history;
    stage = Out history;
  }

  abbrev pub released_view : PassView E F → PassView E F
  released_view v = record v { seen = listed v.stage; stage = Outside }

  abbrev pub kept_view : PassView E F → PassView E F
  kept_view v = record v { part = half v.part }

  abbrev pub forked_view : PassView E F → PassView E F
  forked_view v = record v { mine = []; part = half v.part; stage = Outside }

  abbrev pub known : PassView E F → Known E
  known v = record { seen = v.seen; mine = v.mine }

  abbrev pub joined_view : PassView E F → PassView E F → PassView E F
  joined_view v w = record v {
    seen = longer v.seen w.seen;
    mine = merged v.mine w.mine;
    part = both_parts v.part w.part;
    stage = Outside;
  }

  abbrev pub joining_view : PassView E F → PassView E F → PassView E F
  joining_view v w = at_stage (Joining (known v) (known w)) (joined_view v w)

  -- a call adds these entries to the pass, and the history is then this
  pub record Told (root : E → ℕ → ℕ) (v w : PassView E F)
      (history : List E) (added : List (ℕ × E)) : Type 0 where
    pub begins : IsPrefix v.seen history
    pub seen : w.seen ≡ history
    pub part : w.part ≡ v.part
    pub mine : w.mine ≡ v.mine ++ added
    pub picked : IsPicked w.mine (numbered 1 w.seen)
    pub stand : (k number : ℕ) (e : E) → slice_get added k ≡ Some (number, e)
        → (length v.seen < number) × (slice_get history (number - 1) ≡ Some e)
    pub others : (at : ℕ) (e : E) → length v.seen ≤ at → slice_get history at ≡ Some e
        → ¬ Stands (at + 1) added → ¬ Stands (root e (at + 1)) v.mine
