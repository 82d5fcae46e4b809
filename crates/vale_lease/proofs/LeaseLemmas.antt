-- Leases in order: what opening, completing and taking leave of them.
use Rattle.std.proofs.Common.{ℕ, zero, suc, Bool, true, false, List, [], ◌∷◌, ◌++◌, ◌≡◌, ◌≤◌, ◌<◌, ◌+◌, inl, inr, Some, None, length, map, drop, set, get_or, refl, sym, ◌∙◌, ap, arith, ◌||◌}
use Rattle.std.specs.Prelude.{All, IfSome, slice_get, take_while}
use Rattle.std.specs.List.{prefix_len}
use Rattle.std.proofs.lemmas.Bool.{cases_Bool, or_parts, or_from, or_right, both_ways, eqb-true, eqb-false, ne_eqb}
use Rattle.std.proofs.lemmas.List.Sums.{sum_by-cons, sum_by_push, sum_by-take-le, count_by-le-length}
use Rattle.std.proofs.lemmas.List.Folds.{list_any-append, list_any_at}
use Rattle.std.proofs.lemmas.List.Elements.{All-head, All-tail}
use Rattle.vale_lease.specs.declared.leases.LeaseSlots.{LeaseSlots}
use Rattle.vale_lease.specs.Leases.{has_id, is_out, is_done, is_there, is_lease_out, slots_of, behind_done, first_done, out_count, completed, AreLeases}

slots-cons : (lease : LeaseSlots) (leases : List LeaseSlots) → slots_of (lease ∷ leases) ≡ lease.slots + slots_of leases
slots-cons lease leases = sum_by-cons (λ (l : LeaseSlots). l.slots) lease leases

-- a ring has no more leases than leased slots
pub length-le-slots : (leases : List LeaseSlots) → AreLeases leases → length leases ≤ slots_of leases
length-le-slots [] are = omega arith
length-le-slots (lease ∷ leases) are =
    let rest : length leases ≤ slots_of leases = length-le-slots leases are.1.1 in
    let first : 1 ≤ lease.slots = are.0 in
    let whole : slots_of (lease ∷ leases) ≡ lease.slots + slots_of leases = slots-cons lease leases in
    omega arith

pub out-le-slots : (leases : List LeaseSlots) → AreLeases leases → out_count leases ≤ slots_of leases
out-le-slots leases are =
    let most : out_count leases ≤ length leases = count_by-le-length is_out leases in
    let few : length leases ≤ slots_of leases = length-le-slots leases are in
    omega arith

pub slots-push : (leases : List LeaseSlots) (lease : LeaseSlots) → slots_of (leases ++ lease ∷ []) ≡ slots_of leases + lease.slots
slots-push leases lease = sum_by_push (λ (l : LeaseSlots). l.slots) leases lease

-- an opened lease joins those that are there
pub leases-push : (leases : List LeaseSlots) (lease : LeaseSlots) → AreLeases leases → 1 ≤ lease.slots → is_there lease.id.0 leases ≡ false → AreLeases (leases ++ lease ∷ [])
leases-push [] lease are some fresh = (some, (refl, tt))
leases-push (first ∷ leases) lease are some fresh =
    let parts = or_parts (has_id lease.id.0 first) (is_there lease.id.0 leases) fresh in
    let differ : has_id first.id.0 lease ≡ false = ne_eqb lease.id.0 first.id.0 (λ same. eqb-false first.id.0 lease.id.0 parts.0 (sym same)) in
    let here : is_there first.id.0 (leases ++ lease ∷ []) ≡ false =
    list_any-append (has_id first.id.0) leases (lease ∷ [])
    ∙ or_from (is_there first.id.0 leases) (has_id first.id.0 lease || false) are.1.0 (or_from (has_id first.id.0 lease) false differ refl) in
    (are.0, (here, leases-push leases lease are.1.1 some parts.1))

-- completing changes no id and no number of slots
there-completed : (id q : ℕ) (leases : List LeaseSlots) → is_there q (map (completed id) leases) ≡ is_there q leases
there-completed id q [] = refl
there-completed id q (lease ∷ leases) = ap (λ (b : Bool). has_id q lease || b) (there-completed id q leases)

pub leases-completed : (id : ℕ) (leases : List LeaseSlots) → AreLeases leases → AreLeases (map (completed id) leases)
leases-completed id [] are = tt
leases-completed id (lease ∷ leases) are = (are.0, (there-completed id lease.id.0 leases ∙ are.1.0, leases-completed id leases are.1.1))

pub slots-completed : (id : ℕ) (leases : List LeaseSlots) → slots_of (map (completed id) leases) ≡ slots_of leases
slots-completed id [] = refl
slots-completed id (lease ∷ leases) =
    slots-cons (completed id lease) (map (completed id) leases)
    ∙ (ap (λ (n : ℕ). lease.slots + n) (slots-completed id leases) ∙ sym (slots-cons lease leases))

completed_other : (id : ℕ) (lease : LeaseSlots) → has_id id lease ≡ false → completed id lease ≡ lease
completed_other id lease other = rw other refl

completed_none : (id : ℕ) (leases : List LeaseSlots) → is_there id leases ≡ false → map (completed id) leases ≡ leases
completed_none id [] none = refl
completed_none id (lease ∷ leases) none =
    let parts = or_parts (has_id id lease) (is_there id leases) none in
    let first = completed_other id lease parts.0 in
    let rest = completed_none id leases parts.1 in
    cc

abbrev marked : LeaseSlots → LeaseSlots
marked lease = record lease { is_done = true }

completed_same : (id : ℕ) (lease : LeaseSlots) → has_id id lease ≡ true → completed id lease ≡ marked lease
completed_same id lease same = rw same refl

-- a mark at the lease's place completes it
pub set-completed : (leases : List LeaseSlots) (id at : ℕ) (d : LeaseSlots) → AreLeases leases → at < length leases → has_id id (get_or leases at d) ≡ true
    → set leases at (marked (get_or leases at d)) ≡ map (completed id) leases
set-completed [] id at d are within same = absurd (omega arith)
set-completed (lease ∷ leases) id zero d are within same =
    let is_id : lease.id.0 ≡ id = eqb-true lease.id.0 id same in
    let none : is_there id leases ≡ false = rw is_id at (are.1.0) in
    let rest = completed_none id leases none in
    let first = completed_same id lease same in
    cc
set-completed (lease ∷ leases) id (suc at) d are within same =
    let rest = set-completed leases id at d are.1.1 (omega arith) same in
    let there : is_there id leases ≡ true = list_any_at (has_id id) leases at d (omega arith) same in
    let first : completed id lease ≡ lease = elim (cases_Bool (has_id id lease)) [
      | inl here ↦
          let is_id : lease.id.0 ≡ id = eqb-true lease.id.0 id here in
          let none : is_there id leases ≡ false = rw is_id at (are.1.0) in
          absurd (both_ways (is_there id leases) none there)
      | inr other ↦ completed_other id lease other
    ] in
    cc

-- a lease that is out has a place
pub out_there : (id : ℕ) (leases : List LeaseSlots) → is_lease_out id leases ≡ true → is_there id leases ≡ true
out_there id [] out = out
out_there id (lease ∷ leases) out = elim (cases_Bool (has_id id lease)) [
  | inl here ↦ rw here refl
  | inr other ↦ (let rest : is_lease_out id leases ≡ true = rw other at out in or_right (has_id id lease) (is_there id leases) (out_there id leases rest))
]

-- the first lease is done: it leaves the prefix, and what stands behind the prefix stays
pub first_done_more : (leases : List LeaseSlots) (slots : ℕ) → first_done leases ≡ Some slots → slots_of (take_while is_done leases) ≡ slots + slots_of (take_while is_done (drop 1 leases))
first_done_more [] slots is = absurd (let wrong : None ≡ Some slots = is in cc)
first_done_more (lease ∷ leases) slots is = elim (cases_Bool lease.is_done) [
  | inl here ↦
      let told : Some lease.slots ≡ Some slots = rw here at is in
      let same : lease.slots ≡ slots = cc in
      let next : 1 + prefix_len is_done leases ≡ suc (prefix_len is_done leases) = omega arith in
      let cut : take_while is_done (lease ∷ leases) ≡ lease ∷ take_while is_done leases = rw (here, next) refl in
      ap slots_of cut ∙ (slots-cons lease (take_while is_done leases) ∙ ap (λ (n : ℕ). n + slots_of (take_while is_done leases)) same)
  | inr not_done ↦ absurd (let wrong : None ≡ Some slots = rw not_done at is in cc)
]

pub first_done_behind : (leases : List LeaseSlots) (slots : ℕ) → first_done leases ≡ Some slots → behind_done leases ≡ behind_done (drop 1 leases)
first_done_behind [] slots is = absurd (let wrong : None ≡ Some slots = is in cc)
first_done_behind (lease ∷ leases) slots is = elim (cases_Bool lease.is_done) [
  | inl here ↦ (let next : 1 + prefix_len is_done leases ≡ suc (prefix_len is_done leases) = omega arith in rw (here, next) refl)
  | inr not_done ↦ absurd (let wrong : None ≡ Some slots = rw not_done at is in cc)
]

pub first_done_some : (leases : List LeaseSlots) (slots : ℕ) → first_done leases ≡ Some slots → 1 ≤ length leases
first_done_some [] slots is = absurd (let wrong : None ≡ Some slots = is in cc)
first_done_some (lease ∷ leases) slots is = omega arith

pub first_done_prefix : (leases : List LeaseSlots) → first_done leases ≡ None → take_while is_done leases ≡ []
first_done_prefix [] is = refl
first_done_prefix (lease ∷ leases) is = elim (cases_Bool lease.is_done) [
  | inl here ↦ absurd (let wrong : Some lease.slots ≡ None = rw here at is in cc)
  | inr not_done ↦ rw not_done refl
]

pub first_done_rest : (leases : List LeaseSlots) → first_done leases ≡ None → behind_done leases ≡ leases
first_done_rest [] is = refl
first_done_rest (lease ∷ leases) is = elim (cases_Bool lease.is_done) [
  | inl here ↦ absurd (let wrong : Some lease.slots ≡ None = rw here at is in cc)
  | inr not_done ↦ rw not_done refl
]

pub prefix-le-slots : (leases : List LeaseSlots) → slots_of (take_while is_done leases) ≤ slots_of leases
prefix-le-slots leases = sum_by-take-le (λ (l : LeaseSlots). l.slots) leases (prefix_len is_done leases)

-- leases of which the first ones went
pub leases-drop : (n : ℕ) (leases : List LeaseSlots) → AreLeases leases → AreLeases (drop n leases)
leases-drop zero leases are = are
leases-drop (suc n) [] are = are
leases-drop (suc n) (lease ∷ leases) are = leases-drop n leases are.1.1

pub slots-drop-le : (n : ℕ) (leases : List LeaseSlots) → slots_of (drop n leases) ≤ slots_of leases
slots-drop-le zero leases = omega arith
slots-drop-le (suc n) [] = omega arith
slots-drop-le (suc n) (lease ∷ leases) =
    let rest : slots_of (drop n leases) ≤ slots_of leases = slots-drop-le n leases in
    let whole : slots_of (lease ∷ leases) ≡ lease.slots + slots_of leases = slots-cons lease leases in
    omega arith

pub ruleset leases = (length-le-slots, out-le-slots, slots-push, leases-push, leases-completed, slots-completed, set-completed, out_there, first_done_more, first_done_behind, first_done_some, first_done_prefix, first_done_rest, prefix-le-slots, leases-drop, slots-drop-le)

-- a lease found at a place
pub found_at : (id : ℕ) (leases : List LeaseSlots) (at : ℕ) (d : LeaseSlots) → at < length leases
    → IfSome (slice_get leases at) (λ (lease : LeaseSlots). has_id id lease ≡ true) → has_id id (get_or leases at d) ≡ true
found_at id [] at d within found = absurd (omega (arith, within))
found_at id (lease ∷ leases) zero d within found = found
found_at id (lease ∷ leases) (suc at) d within found = found_at id leases at d (omega (arith, within)) found

abbrev pub IsOther : ℕ → LeaseSlots → Type 0
IsOther id lease = has_id id lease ≡ false

-- what is nowhere is not there
pub none_there : (id : ℕ) (leases : List LeaseSlots) → All (IsOther id) leases → is_there id leases ≡ false
none_there id [] none = refl
none_there id (lease ∷ leases) none =
    or_from (has_id id lease) (is_there id leases) (All-head (IsOther id) lease leases none) (none_there id leases (All-tail (IsOther id) lease leases none))
