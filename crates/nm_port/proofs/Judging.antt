-- The checks of pushed slots, one behind the other, and the marks of the buffers that they name.
use Rattle.std.proofs.Common.{ℕ, zero, suc, ◌≡◌, ◌≢◌, ◌<◌, ◌≤◌, ◌+◌, ◌-◌, Bool, true, false, nat_eq, List, [], ◌∷◌, ◌++◌, length, map, take, drop, get_or, set, replicate, if◌then◌else◌, Some, None, inl, inr, refl, sym, ◌∙◌, ap, arith}
use Rattle.std.specs.Prelude.{◌||◌}
use Rattle.std.proofs.lemmas.Bool.{cases_Bool}
use Rattle.std.proofs.Math.Bool.{or-true, or-false}
use Rattle.std.specs.List.{range_with_len}
use Rattle.std.proofs.lemmas.List.{length-replicate, length-set, length-map, length-drop, drop_all, get_or-set_same, get_or-set_other, get_or-replicate, same_lists, get_or_read}
use Rattle.std.proofs.lemmas.List.Folds.{list_any-append}
use Rattle.nm_hold.proofs.Spots.{nat_eq-is}
use Rattle.nm_types.specs.declared.id.Side.{Side}
use Rattle.nm_types.specs.declared.refusal.SlotFault.{SlotFault}
use Rattle.nm_types.specs.Slots.{SlotState, Pushed, goes_on}
use Rattle.nm_types.specs.SyncFaults.{slot_sync_fault}
use Rattle.nm_types.specs.Positions.{step_on, slots_from}
use Rattle.nm_types.specs.SyncChecks.{slots_refusal, slot_refusal, is_closing, seen_of, begun_after, contains_index}
use Rattle.std.proofs.lemmas.List.FromFn.{length-range_with_len}
use Rattle.nm_types.proofs.Lists.{drop-get_or}
use Rattle.nm_types.proofs.Tests.{same_true, false_true}
use Rattle.nm_port.proofs.Seeing.{get-slots}
use Rattle.nm_port.specs.Sides.{AreMarked, AreMarkedOf, AreCleared}

module _ {X : Type 0} where
  pub length-slots : (f : ℕ → X) (size first n : ℕ) → length (map f (slots_from size first n)) ≡ n
  length-slots f size first n = length-map (slots_from size first n) f ∙ (length-map (range_with_len 0 n) (step_on size first) ∙ length-range_with_len 0 n)

  -- the slots that are not yet judged: the next one, and those behind it
  pub rest-next : (f : ℕ → X) (size first n k : ℕ) → k < n → drop k (map f (slots_from size first n)) ≡ f (step_on size first k) ∷ drop (k + 1) (map f (slots_from size first n))
  rest-next f size first n k below =
      let all = map f (slots_from size first n) in
      let x = f (step_on size first k) in
      let long = length-slots f size first n in
      drop-get_or all k x (omega (arith, below, long)) ∙ ap (λ (y : X). y ∷ drop (k + 1) all) (get-slots f size first 0 n k x below ∙ ap (λ (i : ℕ). f (step_on size first i)) (omega arith))

  pub rest-count : (f : ℕ → X) (size first n k : ℕ) → length (drop k (map f (slots_from size first n))) ≡ n - k
  rest-count f size first n k = (let long = length-slots f size first n in let less = length-drop k (map f (slots_from size first n)) in omega (arith, long, less))

  pub rest-none : (f : ℕ → X) (size first n k : ℕ) → n ≡ k → drop k (map f (slots_from size first n)) ≡ []
  rest-none f size first n k end = drop_all k (map f (slots_from size first n)) (let long = length-slots f size first n in omega (arith, long, end))

-- a slot that passes leaves the refusals of the others, and one that does not is the first
pub judged_next : (side : Side) (whole : Bool) (pool : ℕ) (named earlier : List ℕ) (begun : ℕ) (x : Pushed) (others : List Pushed)
    → slot_refusal side (seen_of (is_closing whole begun (length others)) pool named earlier x) x.at x.slot ≡ None
    → slots_refusal side whole pool named earlier begun (x ∷ others) ≡ slots_refusal side whole pool named (earlier ++ x.slot.buf_idx ∷ []) (begun_after begun x.slot) others
judged_next side whole pool named earlier begun x others here = rw here refl

pub judged_bad : (side : Side) (whole : Bool) (pool : ℕ) (named earlier : List ℕ) (begun : ℕ) (x : Pushed) (others : List Pushed) (fault : SlotFault)
    → slot_refusal side (seen_of (is_closing whole begun (length others)) pool named earlier x) x.at x.slot ≡ Some fault
    → slots_refusal side whole pool named earlier begun (x ∷ others) ≡ Some (slot_sync_fault fault)
judged_bad side whole pool named earlier begun x others fault here = rw here refl

pub begun_after-most : (begun : ℕ) (slot : SlotState) → begun_after begun slot ≤ begun + 1
begun_after-most begun slot = elim (cases_Bool (goes_on slot)) [ inl e ↦ rw e (omega arith) | inr e ↦ rw e (omega arith) ]

-- nothing is marked at first, and then each name of a slot that passed
pub marked_none : (count : ℕ) → AreMarked (replicate count false) []
marked_none count idx within = get_or-replicate count idx false false (rw length-replicate at within)

pub contains_more : (names : List ℕ) (name idx : ℕ) → contains_index (names ++ name ∷ []) idx ≡ (contains_index names idx || nat_eq name idx)
contains_more names name idx = list_any-append (λ (b : ℕ). nat_eq b idx) names (name ∷ []) ∙ ap (λ (b : Bool). contains_index names idx || b) (or-false (nat_eq name idx))

pub marked_more : (marks : List Bool) (names : List ℕ) (name : ℕ) → AreMarked marks names → AreMarked (set marks name true) (names ++ name ∷ [])
marked_more marks names name marked idx within =
    let count = length-set marks name true in
    let inside : idx < length marks = omega (arith, count) in
    contains inside (nat_eq name idx) refl
  where
    contains : idx < length marks → (same : Bool) → nat_eq name idx ≡ same → get_or (set marks name true) idx false ≡ contains_index (names ++ name ∷ []) idx
    contains inside true e =
        let at : name ≡ idx = nat_eq-is name idx e in
        ap (λ (i : ℕ). get_or (set marks name true) i false) (sym at) ∙ (get_or-set_same marks name true false (rw at inside)
        ∙ sym (contains_more names name idx ∙ (ap (λ (b : Bool). contains_index names idx || b) e ∙ or-true (contains_index names idx))))
    contains inside false e =
        let other : idx ≢ name = (λ same. false_true (sym e ∙ same_true name idx (sym same))) in
        get_or-set_other marks name idx true false other ∙ (marked idx inside
        ∙ sym (contains_more names name idx ∙ (ap (λ (b : Bool). contains_index names idx || b) e ∙ or-false (contains_index names idx))))

-- one mark less, of a name; and no mark is left once those of all names are cleared
pub unmarked_next : (marks now : List Bool) (done : List ℕ) (name : ℕ)
    → length now ≡ length marks → ((idx : ℕ) → idx < length marks → get_or now idx false ≡ (if contains_index done idx then false else get_or marks idx false))
    → (idx : ℕ) → idx < length marks → get_or (set now name false) idx false ≡ (if contains_index (done ++ name ∷ []) idx then false else get_or marks idx false)
unmarked_next marks now done name count before idx within = contains (nat_eq name idx) refl
  where
    contains : (same : Bool) → nat_eq name idx ≡ same → get_or (set now name false) idx false ≡ (if contains_index (done ++ name ∷ []) idx then false else get_or marks idx false)
    contains true e =
        let at : name ≡ idx = nat_eq-is name idx e in
        let inside : name < length now = rw (at, count) within in
        let in_all : contains_index (done ++ name ∷ []) idx ≡ true = contains_more done name idx ∙ (ap (λ (b : Bool). contains_index done idx || b) e ∙ or-true (contains_index done idx)) in
        ap (λ (i : ℕ). get_or (set now name false) i false) (sym at) ∙ (get_or-set_same now name false false inside ∙ rw in_all refl)
    contains false e =
        let other : idx ≢ name = (λ same. false_true (sym e ∙ same_true name idx (sym same))) in
        let in_all : contains_index (done ++ name ∷ []) idx ≡ contains_index done idx = contains_more done name idx ∙ (ap (λ (b : Bool). contains_index done idx || b) e ∙ or-false (contains_index done idx)) in
        get_or-set_other now name idx false false other ∙ (before idx within ∙ rw in_all refl)

contains_first : (k : ℕ) (names : List ℕ) (idx : ℕ) → contains_index names idx ≡ false → contains_index (take k names) idx ≡ false
contains_first zero names idx none = refl
contains_first (suc k) [] idx none = refl
contains_first (suc k) (name ∷ names) idx none =
    let both = neither (nat_eq name idx) (contains_index names idx) none in
    rw both.0 (contains_first k names idx both.1)
  where
    neither : (a b : Bool) → (a || b) ≡ false → (a ≡ false) × (b ≡ false)
    neither true b e = cc
    neither false b e = (refl, e)

-- no mark is left once those of all names are cleared
pub none_marked : (marks now : List Bool) (names : List ℕ) (count : ℕ) → AreMarkedOf marks names → length marks ≡ count → length now ≡ count
    → ((idx : ℕ) → idx < length marks → get_or now idx false ≡ (if contains_index names idx then false else get_or marks idx false)) → now ≡ replicate count false
none_marked marks now names count marked all left cleared =
    same_lists now (replicate count false) (left ∙ sym (length-replicate count false)) (λ idx d within. (let inside : idx < count = omega (arith, left) in
    sym (get_or_default now idx d within) ∙ (none_at idx (rw (← all) at inside) ∙ sym (get_or-replicate count idx false d inside))))
  where
    get_or_default : (xs : List Bool) (idx : ℕ) (d : Bool) → idx < length xs → get_or xs idx false ≡ get_or xs idx d
    get_or_default xs idx d within = get_or_read xs idx (get_or xs idx false) within (sym (get_or_again xs idx within)) d
      where
        get_or_again : (xs : List Bool) (idx : ℕ) → idx < length xs → get_or xs idx (get_or xs idx false) ≡ get_or xs idx false
        get_or_again [] idx within = absurd (omega arith)
        get_or_again (x ∷ xs) zero within = refl
        get_or_again (x ∷ xs) (suc idx) within = get_or_again xs idx (omega arith)

    none_at : (idx : ℕ) → idx < length marks → get_or now idx false ≡ false
    none_at idx within = by_name (contains_index names idx) refl
      where
        by_name : (b : Bool) → contains_index names idx ≡ b → get_or now idx false ≡ false
        by_name true e = cleared idx within ∙ rw e refl
        by_name false e = cleared idx within ∙ rw e (marked.1 idx within ∙ contains_first marked.0 names idx e)

-- marks that were blank are blank again
pub blank_again : (blank judged now : List Bool) (names : List ℕ) (count : ℕ) → blank ≡ replicate count false → AreMarkedOf judged names → length judged ≡ length blank
    → length now ≡ length judged → AreCleared judged now names → now ≡ blank
blank_again blank judged now names count e marked same left cleared =
    let all : length judged ≡ count = same ∙ (ap (λ (m : List Bool). length m) e ∙ length-replicate count false) in
    none_marked judged now names count marked all (left ∙ all) cleared ∙ sym e
