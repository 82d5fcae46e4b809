-- Slots that no check refuses are those that pass them all.
use Rattle.std.proofs.Common.{ℕ, Bool, true, false, not, ◌&&◌, ◌||◌, ◌≡◌, ◌≢◌, ◌≤◌, ◌==◌, nat_lt, List, [], ◌∷◌, ◌++◌, length, Option, Some, None, option_map, if◌then◌else◌, nat_eq, eq-eqb, refl, ◌∙◌, ap, arith, inl, inr}
use Rattle.std.specs.List.{list_all, IsDistinct, AllByRecursion}
use Rattle.std.proofs.lemmas.Bool.{cases_Bool, eqb-true}
use Rattle.std.proofs.lemmas.List.Folds.{list_any-append}
use Rattle.std.proofs.lemmas.Bool.Decides.{nat_tests}
use Rattle.nm_types.specs.declared.id.Side.{Side}
use Rattle.nm_types.specs.declared.slot.Seen.{Seen}
use Rattle.nm_types.specs.declared.refusal.SlotFault.{SlotFault}
use Rattle.nm_types.specs.declared.fault.SyncFault.{SyncFault}
use Rattle.nm_types.specs.Slots.{SlotState, Pushed, pushed_names, has_flag, goes_on, buf_changed, indirect}
use Rattle.nm_types.specs.SyncFaults.{slot_sync_fault}
use Rattle.nm_types.specs.SyncChecks.{is_tx, is_index_out, slot_refusal, slots_refusal, first_refusal, is_closing, seen_of, begun_after, contains_index, PassesSlot, EachPasses, NamesOnce}

-- the first of seven answers, where none comes
none_of_seven : {A : Type 0} → (a b c d e f g : Bool) (t u v w x y z : A)
    → (if a then Some t else if b then Some u else if c then Some v else if d then Some w else if e then Some x else if f then Some y else if g then Some z else None) ≡ None
    → (a ≡ false) × (b ≡ false) × (c ≡ false) × (d ≡ false) × (e ≡ false) × (f ≡ false) × (g ≡ false)
none_of_seven true b c d e f g t u v w x y z h = cc
none_of_seven false true c d e f g t u v w x y z h = cc
none_of_seven false false true d e f g t u v w x y z h = cc
none_of_seven false false false true e f g t u v w x y z h = cc
none_of_seven false false false false true f g t u v w x y z h = cc
none_of_seven false false false false false true g t u v w x y z h = cc
none_of_seven false false false false false false true t u v w x y z h = cc
none_of_seven false false false false false false false t u v w x y z h = (refl, refl, refl, refl, refl, refl, refl)

both_false : (a b : Bool) → (a && b) ≡ false → a ≡ true → b ≡ false
both_false true b e h = e
both_false false b e h = cc

false_both : (a b : Bool) → (a ≡ true → b ≡ false) → (a && b) ≡ false
false_both true b h = h refl
false_both false b h = refl

not_false : (a : Bool) → not a ≡ false → a ≡ true
not_false true e = refl
not_false false e = cc

index_least : (top idx : ℕ) → is_index_out top idx ≡ false → 2 ≤ idx
index_least top idx e = grind (arith, nat_tests)

index_most : (top idx : ℕ) → is_index_out top idx ≡ false → idx ≤ top
index_most top idx e = grind (arith, nat_tests)

index_in : (top idx : ℕ) → 2 ≤ idx → idx ≤ top → is_index_out top idx ≡ false
index_in top idx h k = grind (arith, nat_tests)

not_longer : (a b : ℕ) → nat_lt a b ≡ false → b ≤ a
not_longer a b e = grind (arith, nat_tests)

not_below : (a b : ℕ) → b ≤ a → nat_lt a b ≡ false
not_below a b h = grind (arith, nat_tests)

announced_where_other : (idx was : ℕ) (flag : Bool) → (not (idx == was) && not flag) ≡ false → idx ≢ was → flag ≡ true
announced_where_other idx was flag e other = grind (arith, nat_tests)

other_announced : (idx was : ℕ) (flag : Bool) → (idx ≢ was → flag ≡ true) → (not (idx == was) && not flag) ≡ false
other_announced idx was true h = grind (arith, nat_tests)
other_announced idx was false h = grind (arith, nat_tests)

pub PassesSlot-from_none : (side : Side) (seen : Seen) (at : ℕ) (slot : SlotState) → slot_refusal side seen at slot ≡ None → PassesSlot side seen slot
PassesSlot-from_none side seen at slot e =
    let none = none_of_seven _ _ _ _ _ _ _ _ _ _ _ _ _ _ e in
    record {
      direct = both_false (is_tx side) (has_flag indirect slot) none.0;
      least = index_least seen.top slot.buf_idx none.1;
      most = index_most seen.top slot.buf_idx none.1;
      held = not_false seen.held none.2;
      once = none.3;
      announced = announced_where_other slot.buf_idx seen.was (has_flag buf_changed slot) none.4;
      fits_buffer = (λ (tx : is_tx side ≡ true). not_longer 2048 slot.len (both_false (is_tx side) (nat_lt 2048 slot.len) none.5 tx));
      ends = (λ (tx : is_tx side ≡ true) (closing : seen.closing ≡ true). both_false seen.closing (goes_on slot) (both_false (is_tx side) (seen.closing && goes_on slot) none.6 tx) closing);
    }

pub slot_refusal-passes : (side : Side) (seen : Seen) (at : ℕ) (slot : SlotState) → PassesSlot side seen slot → slot_refusal side seen at slot ≡ None
slot_refusal-passes side seen at slot p =
    let direct = false_both (is_tx side) (has_flag indirect slot) p.direct in
    let index = index_in seen.top slot.buf_idx p.least p.most in
    let held : not seen.held ≡ false = ap not p.held in
    let announced = other_announced slot.buf_idx seen.was (has_flag buf_changed slot) p.announced in
    let short = false_both (is_tx side) (nat_lt 2048 slot.len) (λ (tx : is_tx side ≡ true). not_below 2048 slot.len (p.fits_buffer tx)) in
    let ends = false_both (is_tx side) (seen.closing && goes_on slot) (λ (tx : is_tx side ≡ true). false_both seen.closing (goes_on slot) (p.ends tx)) in
    rw (direct, index, held, p.once, announced, short, ends) refl

-- a pushed range without a refusal, slot by slot
pub refused_none : {A : Type 0} → (slot_sync : SlotFault → A) → (o : Option SlotFault) → option_map slot_sync o ≡ None → o ≡ None
refused_none slot_sync None e = refl
refused_none slot_sync (Some fault) e = cc

pub first_none : (first later : Option SyncFault) → first_refusal first later ≡ None → first ≡ None
first_none None later e = refl
first_none (Some fault) later e = cc

pub later_none : (first later : Option SyncFault) → first_refusal first later ≡ None → later ≡ None
later_none None later e = e
later_none (Some fault) later e = cc

pub EachPasses-from_none : (side : Side) (whole : Bool) (pool : ℕ) (named earlier : List ℕ) (begun : ℕ) (pushed : List Pushed) → slots_refusal side whole pool named earlier begun pushed ≡ None → EachPasses side whole pool named earlier begun pushed
EachPasses-from_none side whole pool named earlier begun [] e = tt
EachPasses-from_none side whole pool named earlier begun (p ∷ ps) e =
    let refusal = slot_refusal side (seen_of (is_closing whole begun (length ps)) pool named earlier p) p.at p.slot in
    let others = slots_refusal side whole pool named (earlier ++ p.slot.buf_idx ∷ []) (begun_after begun p.slot) ps in
    let none = refused_none slot_sync_fault refusal (first_none (option_map slot_sync_fault refusal) others e) in (
      PassesSlot-from_none side (seen_of (is_closing whole begun (length ps)) pool named earlier p) p.at p.slot none,
      EachPasses-from_none side whole pool named (earlier ++ p.slot.buf_idx ∷ []) (begun_after begun p.slot) ps (later_none (option_map slot_sync_fault refusal) others e),
    )

pub slots_refusal-passes : (side : Side) (whole : Bool) (pool : ℕ) (named earlier : List ℕ) (begun : ℕ) (pushed : List Pushed) → EachPasses side whole pool named earlier begun pushed → slots_refusal side whole pool named earlier begun pushed ≡ None
slots_refusal-passes side whole pool named earlier begun [] passes = refl
slots_refusal-passes side whole pool named earlier begun (p ∷ ps) passes =
    let first = slot_refusal-passes side (seen_of (is_closing whole begun (length ps)) pool named earlier p) p.at p.slot passes.0 in
    let rest = slots_refusal-passes side whole pool named (earlier ++ p.slot.buf_idx ∷ []) (begun_after begun p.slot) ps passes.1 in
    rw (first, rest) refl

-- a slot behind one that names a buffer names another
apart : (b idx : ℕ) (earlier : List ℕ) → contains_index earlier b ≡ true → contains_index earlier idx ≡ false → nat_eq b idx ≡ false
apart b idx earlier has lacks = elim (cases_Bool (nat_eq b idx)) [
  | inl e ↦ (let same = eqb-true b idx e in let both : contains_index earlier b ≡ contains_index earlier idx = ap (contains_index earlier) same in cc)
  | inr e ↦ e
]

still_in : (b : ℕ) (earlier more : List ℕ) → contains_index earlier b ≡ true → contains_index (earlier ++ more) b ≡ true
still_in b earlier more has = list_any-append (λ (x : ℕ). x == b) earlier more ∙ (let P : Bool → Bool = λ x. x || contains_index more b in ap P has)

now_in : (b : ℕ) (earlier : List ℕ) → contains_index (earlier ++ b ∷ []) b ≡ true
now_in b earlier =
    let cut = list_any-append (λ (x : ℕ). x == b) earlier (b ∷ []) in
    let same : (b == b) ≡ true = eq-eqb b b refl in
    let last : contains_index (b ∷ []) b ≡ true = (let P : Bool → Bool = λ x. x || false in ap P same) in
    cut ∙ (ap (λ (x : Bool). contains_index earlier b || x) last ∙ or_true (contains_index earlier b))
  where
    or_true : (x : Bool) → (x || true) ≡ true
    or_true true = refl
    or_true false = refl

names_apart : (side : Side) (whole : Bool) (pool : ℕ) (named earlier : List ℕ) (begun : ℕ) (b : ℕ) (pushed : List Pushed) → contains_index earlier b ≡ true
    → EachPasses side whole pool named earlier begun pushed → AllByRecursion (λ y. nat_eq b y ≡ false) (pushed_names pushed)
names_apart side whole pool named earlier begun b [] has passes = tt
names_apart side whole pool named earlier begun b (p ∷ ps) has passes = (
  apart b p.slot.buf_idx earlier has passes.0.once,
  names_apart side whole pool named (earlier ++ p.slot.buf_idx ∷ []) (begun_after begun p.slot) b ps (still_in b earlier (p.slot.buf_idx ∷ []) has) passes.1,
)

names_distinct : (side : Side) (whole : Bool) (pool : ℕ) (named earlier : List ℕ) (begun : ℕ) (pushed : List Pushed) → EachPasses side whole pool named earlier begun pushed → IsDistinct nat_eq (pushed_names pushed)
unfolding IsDistinct
names_distinct side whole pool named earlier begun [] passes = tt
names_distinct side whole pool named earlier begun (p ∷ ps) passes = (
  names_apart side whole pool named (earlier ++ p.slot.buf_idx ∷ []) (begun_after begun p.slot) p.slot.buf_idx ps (now_in p.slot.buf_idx earlier) passes.1,
  names_distinct side whole pool named (earlier ++ p.slot.buf_idx ∷ []) (begun_after begun p.slot) ps passes.1,
)

names_held : (side : Side) (whole : Bool) (pool : ℕ) (named earlier : List ℕ) (begun : ℕ) (pushed : List Pushed) → EachPasses side whole pool named earlier begun pushed → list_all (contains_index named) (pushed_names pushed) ≡ true
names_held side whole pool named earlier begun [] passes = refl
names_held side whole pool named earlier begun (p ∷ ps) passes =
    let first : contains_index named p.slot.buf_idx ≡ true = passes.0.held in
    let rest = names_held side whole pool named (earlier ++ p.slot.buf_idx ∷ []) (begun_after begun p.slot) ps passes.1 in
    rw (first, rest) refl

pub NamesOnce-from_passes : (side : Side) (whole : Bool) (pool : ℕ) (named earlier : List ℕ) (begun : ℕ) (pushed : List Pushed) → EachPasses side whole pool named earlier begun pushed → NamesOnce named pushed
NamesOnce-from_passes side whole pool named earlier begun pushed passes = record { distinct = names_distinct side whole pool named earlier begun pushed passes; held = names_held side whole pool named earlier begun pushed passes }

-- a slot that one check refuses does not pass
pub refused-PassesSlot : (side : Side) (seen : Seen) (at : ℕ) (slot : SlotState) (fault : SlotFault) → slot_refusal side seen at slot ≡ Some fault → PassesSlot side seen slot → ⊥
refused-PassesSlot side seen at slot fault e passes = let none = slot_refusal-passes side seen at slot passes in cc

pub ruleset slot_checks = (PassesSlot-from_none, refused-PassesSlot)
