-- Frames that are joined slot by slot, from a position on.
use Rattle.std.proofs.Common.{ℕ, ◌≡◌, ◌+◌, ◌%◌, false, List, [], ◌∷◌, ◌++◌, map, refl, sym, ◌∙◌, ap, arith}
use Rattle.std.proofs.lemmas.List.{map-append}
use Rattle.nm_types.specs.Frames.{Frame}
use Rattle.nm_types.specs.Positions.{step_on, slots_from}
use Rattle.nm_types.specs.Slots.{SlotState, goes_on}
use Rattle.nm_types.proofs.RingSteps.{slots_from-add, step_on-step_on}
use Rattle.nm_port.specs.Gathered.{with_gathered, gathered, goes_on_behind}
use Rattle.nm_port.proofs.Gathering.{gathered-append, goes_on-append}

-- one slot more from a position on
slot-more : (f : ℕ → SlotState) (size at k : ℕ) → map f (slots_from size at (k + 1)) ≡ map f (slots_from size at k) ++ f ((at + k) % size) ∷ []
slot-more f size at k =
    let none : k + 0 ≡ k = omega arith in
    let last : step_on size (step_on size at k) 0 ≡ step_on size at k = step_on-step_on size at k 0 ∙ ap (step_on size at) none in
    ap (map f) (slots_from-add size at k 1)
    ∙ (map-append f (slots_from size at k) (slots_from size (step_on size at k) 1)
    ∙ ap (λ (x : ℕ). map f (slots_from size at k) ++ f x ∷ []) last)

module _ (bytes_of : ℕ → List ℕ) (f : ℕ → SlotState) (size at k : ℕ) where
  abbrev before : List SlotState
  before = map f (slots_from size at k)

  abbrev next : SlotState
  next = f ((at + k) % size)

  pub joined-more : gathered bytes_of [] false (map f (slots_from size at (k + 1))) ≡ with_gathered bytes_of (gathered bytes_of [] false before) (goes_on_behind false before) next
  joined-more = ap (gathered bytes_of [] false) (slot-more f size at k) ∙ gathered-append bytes_of [] false before (next ∷ [])

  pub goes-more : goes_on_behind false (map f (slots_from size at (k + 1))) ≡ goes_on next
  goes-more = ap (goes_on_behind false) (slot-more f size at k) ∙ goes_on-append false before (next ∷ [])
