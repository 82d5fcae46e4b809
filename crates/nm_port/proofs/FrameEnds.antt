-- Where the frame ends that begins in the first of some slots.
use Rattle.std.proofs.Common.{ℕ, suc, ◌≡◌, ◌+◌, ◌<◌, ◌≤◌, Bool, true, false, cond, nat_lt, List, [], ◌∷◌, length, drop, Some, None, refl, ◌∙◌, ap, arith}
use Rattle.std.specs.Option.{option_map_or}
use Rattle.std.specs.List.{position_or_len}
use Rattle.std.proofs.lemmas.Bool.Decides.{nat_tests}
use Rattle.nm_types.specs.Slots.{SlotState, goes_on}
use Rattle.nm_types.specs.OwnEdits.{ends_here, slots_to_end}

-- how many slots stand before the first in which a frame ends
abbrev pub before_end : List SlotState → ℕ
before_end slots = position_or_len ends_here slots

goes_behind : (slot : SlotState) (slots : List SlotState) → goes_on slot ≡ true → before_end (slot ∷ slots) ≡ 1 + before_end slots
goes_behind slot slots e = rw e refl

stops_here : (slot : SlotState) (slots : List SlotState) → goes_on slot ≡ false → before_end (slot ∷ slots) ≡ 0
stops_here slot slots e = rw e refl

-- a slot more in which no frame ends
pub left_next : (k : ℕ) (all : List SlotState) (slot : SlotState) → drop k all ≡ slot ∷ drop (k + 1) all → goes_on slot ≡ true → before_end all ≡ k + before_end (drop k all) → before_end all ≡ k + 1 + before_end (drop (k + 1) all)
left_next k all slot next on left =
    let here : before_end (drop k all) ≡ 1 + before_end (drop (k + 1) all) = ap before_end next ∙ goes_behind slot (drop (k + 1) all) on in
    left ∙ added k (before_end (drop k all)) (before_end (drop (k + 1) all)) here
  where
    added : (k n m : ℕ) → n ≡ 1 + m → k + n ≡ k + 1 + m
    added k n m e = omega arith

-- the first in which one ends
pub ends_at : (k : ℕ) (all : List SlotState) (slot : SlotState) → drop k all ≡ slot ∷ drop (k + 1) all → goes_on slot ≡ false → k < length all → before_end all ≡ k + before_end (drop k all) → slots_to_end all ≡ k + 1
ends_at k all slot next off below left =
    let none : before_end (drop k all) ≡ 0 = ap before_end next ∙ stops_here slot (drop (k + 1) all) off in
    let is : before_end all ≡ k = left ∙ added k (before_end (drop k all)) none in
    found (before_end all) (length all) k is below
  where
    added : (k n : ℕ) → n ≡ 0 → k + n ≡ k
    added k n e = omega arith

    found : (n m k : ℕ) → n ≡ k → k < m → option_map_or suc (cond (nat_lt n m) (Some n) None) 0 ≡ k + 1
    found n m k is below =
        let less : nat_lt n m ≡ true = grind (arith, nat_tests) in
        let one : suc n ≡ k + 1 = omega arith in
        rw less one

-- none ends in any of them
pub ends_nowhere : (all : List SlotState) (k : ℕ) → k ≡ length all → drop k all ≡ [] → before_end all ≡ k + before_end (drop k all) → slots_to_end all ≡ 0
ends_nowhere all k end none left =
    let is : before_end all ≡ k = left ∙ added k (before_end (drop k all)) (ap before_end none) in
    not_found (before_end all) (length all) (is ∙ end)
  where
    added : (k n : ℕ) → n ≡ 0 → k + n ≡ k
    added k n e = omega arith

    not_found : (n m : ℕ) → n ≡ m → option_map_or suc (cond (nat_lt n m) (Some n) None) 0 ≡ 0
    not_found n m is =
        let less : nat_lt n m ≡ false = grind (arith, nat_tests) in
        rw less refl

-- and none is found beyond them
pub ends_within : (all : List SlotState) → slots_to_end all ≤ length all
ends_within all = by (before_end all) (length all) (nat_lt (before_end all) (length all)) refl
  where
    by : (n m : ℕ) (b : Bool) → nat_lt n m ≡ b → option_map_or suc (cond (nat_lt n m) (Some n) None) 0 ≤ m
    by n m true e = rw e (let less : n < m = grind (arith, nat_tests) in omega (arith, less))
    by n m false e = rw e (omega arith)
