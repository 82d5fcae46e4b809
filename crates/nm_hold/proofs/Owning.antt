-- What stands side by side, each with the index that owns its position: after something comes, goes or
-- is written.
use Rattle.std.proofs.Common.{ℕ, zero, suc, ◌≡◌, ◌≢◌, ◌<◌, ◌+◌, ◌-◌, nat_eq, false, List, [], ◌∷◌, ◌++◌, length, replicate, get_or, slice_set, Option, Some, None, inl, inr, refl, sym, ◌∙◌, ap, subst, arith}
use Rattle.std.specs.Prelude.{IsSome, slice_get, slice_index, count_by, cond}
use Rattle.std.proofs.lemmas.Bool.{cases_eq}
use Rattle.std.proofs.lemmas.Bool.Decides.{nat_tests}
use Rattle.std.proofs.lemmas.List.{length-set, length-map, length_push, get_or-set_same, get_or-set_other, get_or_push, get_or_append_left, get_or_read, ext_get_or, set-set}
use Rattle.std.proofs.lemmas.List.Sums.{sum_by-cons, sum_by-set}
use Rattle.std.proofs.lemmas.Option.{slice_get-get_or}
use Rattle.nm_hold.specs.declared.standing.Standing.{Standing}
use Rattle.nm_hold.specs.Holds.{cell_at}
use Rattle.nm_hold.specs.Sparse.{named_by, cells_of, number_of, AreOwners}

zero_suc : {X : Type 0} (k : ℕ) → 0 ≡ suc k → X
zero_suc k e = cc

same_suc : (j k : ℕ) → suc j ≡ suc k → j ≡ k
same_suc j k e = omega arith

pub cell_named : (at : List ℕ) (held : List Standing) (idx : ℕ) → cell_at (cells_of at held) idx ≡ named_by held (number_of at idx)
cell_named [] held idx = refl
cell_named (n ∷ at) held zero = refl
cell_named (n ∷ at) held (suc idx) = cell_named at held idx

pub within_numbers : (at : List ℕ) (idx k : ℕ) → number_of at idx ≡ suc k → idx < length at
within_numbers [] idx k e = zero_suc k e
within_numbers (n ∷ at) zero k e = omega arith
within_numbers (n ∷ at) (suc idx) k e = omega (arith, within_numbers at idx k e)

-- where something stands
pub record Position (at : List ℕ) (held : List Standing) (idx : ℕ) : Type 0 where
  pub k : ℕ
  pub number : number_of at idx ≡ suc k
  pub within : k < length held
  pub index : idx < length at

pub position : (at : List ℕ) (held : List Standing) (idx : ℕ) → IsSome (cell_at (cells_of at held) idx) → Position at held idx
position at held idx some = by_number (number_of at idx) refl (rw (cell_named at held idx) at some)
  where
    none_some : {X : Type 0} → IsSome {T = Standing} None → X
    none_some h = cc

    is_within : (held : List Standing) (k : ℕ) → IsSome (slice_get held k) → k < length held
    is_within [] k h = none_some h
    is_within (s ∷ held) zero h = omega arith
    is_within (s ∷ held) (suc k) h = omega (arith, is_within held k h)

    by_number : (n : ℕ) → number_of at idx ≡ n → IsSome (named_by held n) → Position at held idx
    by_number zero e h = none_some h
    by_number (suc k) e h = record { k = k; number = e; within = is_within held k h; index = within_numbers at idx k e }

-- where nothing stands the number is 0
pub no_number : (at owners : List ℕ) (held : List Standing) (idx : ℕ) → AreOwners at owners → length held ≡ length owners → cell_at (cells_of at held) idx ≡ None → number_of at idx ≡ 0
no_number at owners held idx own both none = by_number (number_of at idx) refl
  where
    is_there : (held : List Standing) (k : ℕ) → k < length held → slice_get held k ≡ None → ⊥
    is_there [] k h e = omega arith
    is_there (s ∷ held) zero h e = cc
    is_there (s ∷ held) (suc k) h e = is_there held k (omega arith) e

    by_number : (n : ℕ) → number_of at idx ≡ n → number_of at idx ≡ 0
    by_number zero e = e
    by_number (suc k) e =
        let named : slice_get held k ≡ None = ap (named_by held) (sym e) ∙ (sym (cell_named at held idx) ∙ none) in
        let owner = own.owned idx k e in
        absurd (is_there held k (omega (arith, owner.0)) named)

-- what is read at the position of an index
pub standing_read : (at : List ℕ) (held : List Standing) (idx k : ℕ) (s : Standing) → number_of at idx ≡ suc k → k < length held → s ≡ get_or held k s → cell_at (cells_of at held) idx ≡ Some s
standing_read at held idx k s e h read =
    cell_named at held idx ∙ (ap (named_by held) e ∙ (slice_get-get_or held k s h ∙ ap (λ (t : Standing). Some t) (sym read)))

-- a number that is not 0 is one more than a position that holds something
pub held_before : (at owners : List ℕ) (held : List Standing) (idx n : ℕ) → AreOwners at owners → length held ≡ length owners → n ≡ number_of at idx → 0 < n → (number_of at idx ≡ suc (n - 1)) × (n - 1 < length held)
held_before at owners held idx n own both e h =
    let number : number_of at idx ≡ suc (n - 1) = omega (arith, e, h) in
    let owner = own.owned idx (n - 1) number in
    (number, omega (arith, owner.0, both))

-- how many indices have no number, after one is set
abbrev free_count : List ℕ → ℕ
free_count at = count_by (λ n. nat_eq n 0) at

abbrev one_if : ℕ → ℕ
one_if n = cond (nat_eq n 0) 1 0

one_if-some : (n : ℕ) → 0 < n → one_if n ≡ 0
one_if-some n h = let some : nat_eq n 0 ≡ false = grind (arith, nat_tests) in rw some refl

one_if-none : (n : ℕ) → n ≡ 0 → one_if n ≡ 1
one_if-none n e = rw e refl

free_set : (at : List ℕ) (idx n : ℕ) → idx < length at → free_count (slice_set at idx n) + one_if (number_of at idx) ≡ free_count at + one_if n
free_set at idx n h = sum_by-set one_if at idx n 0 h

-- nothing stands at any index
number_none : (count idx : ℕ) → number_of (replicate count 0) idx ≡ 0
number_none zero idx = refl
number_none (suc count) zero = refl
number_none (suc count) (suc idx) = number_none count idx

free_none : (count : ℕ) → free_count (replicate count 0) ≡ length (replicate {A = ℕ} count 0)
free_none zero = refl
free_none (suc count) = omega (arith, sum_by-cons one_if 0 (replicate {A = ℕ} count 0), one_if-none 0 refl, free_none count)

pub owners_none : (count : ℕ) → AreOwners (replicate count 0) []
owners_none count = record {
  numbered = λ k h. omega (arith, h);
  owned = λ idx k e. zero_suc k (sym (number_none count idx) ∙ e);
  full = omega (arith, free_none count);
}

pub cells_none : (count : ℕ) (held : List Standing) → cells_of (replicate count 0) held ≡ replicate count None
cells_none zero held = refl
cells_none (suc count) held = ap (λ (cells : List (Option Standing)). None ∷ cells) (cells_none count held)

pub nothing_held : (at owners : List ℕ) (held : List Standing) → AreOwners at owners → length held ≡ length owners → ((idx : ℕ) → cell_at (cells_of at held) idx ≡ None) → length held ≡ 0
nothing_held at owners [] own both none = refl
nothing_held at owners (s ∷ held) own both none =
    let first : number_of at (slice_index owners 0) ≡ 1 = own.numbered 0 (omega (arith, both)) in
    let there : cell_at (cells_of at (s ∷ held)) (slice_index owners 0) ≡ Some s = cell_named at (s ∷ held) (slice_index owners 0) ∙ ap (named_by (s ∷ held)) first in
    absurd (none_is_some s (sym (none (slice_index owners 0)) ∙ there))
  where
    none_is_some : (s : Standing) → None ≡ Some s → ⊥
    none_is_some s e = cc

-- one more fits where an index has no number
pub room_left : (at owners : List ℕ) (idx : ℕ) → AreOwners at owners → idx < length at → number_of at idx ≡ 0 → length owners < length at
room_left at owners idx own within free = omega (arith, free_set at idx 1 within, one_if-none (number_of at idx) free, one_if-some 1 (omega arith), own.full)

-- cells that differ at one index
changed : (at new : List ℕ) (held after : List Standing) (idx : ℕ) (cell : Option Standing) → length new ≡ length at → idx < length at → named_by after (number_of new idx) ≡ cell
    → ((i : ℕ) → i ≢ idx → named_by after (number_of new i) ≡ named_by held (number_of at i)) → cells_of new after ≡ slice_set (cells_of at held) idx cell
changed at new held after idx cell count within here others =
    ext_get_or None (cells_of new after) (slice_set (cells_of at held) idx cell)
    (length-map new (named_by after) ∙ (count ∙ (sym (length-map at (named_by held)) ∙ sym (length-set (cells_of at held) idx cell))))
    (λ i h. elim (cases_eq i idx) [
      | inl e ↦ cell_named new after i ∙ (ap (λ (n : ℕ). named_by after (number_of new n)) e ∙ (here ∙ (sym (get_or-set_same (cells_of at held) idx cell None (omega (arith, within, length-map at (named_by held)))) ∙ ap (cell_at (slice_set (cells_of at held) idx cell)) (sym e))))
      | inr other ↦ cell_named new after i ∙ (others i other ∙ (sym (cell_named at held i) ∙ sym (get_or-set_other (cells_of at held) idx i cell None other)))
    ])

get_set_same : (held : List Standing) (k : ℕ) (s : Standing) → k < length held → slice_get (slice_set held k s) k ≡ Some s
get_set_same [] k s h = absurd (omega arith)
get_set_same (t ∷ held) zero s h = refl
get_set_same (t ∷ held) (suc k) s h = get_set_same held k s (omega arith)

get_set_other : (held : List Standing) (k j : ℕ) (s : Standing) → j ≢ k → slice_get (slice_set held k s) j ≡ slice_get held j
get_set_other [] k j s h = refl
get_set_other (t ∷ held) zero zero s h = absurd (h refl)
get_set_other (t ∷ held) zero (suc j) s h = refl
get_set_other (t ∷ held) (suc k) zero s h = refl
get_set_other (t ∷ held) (suc k) (suc j) s h = get_set_other held k j s (λ e. h (ap suc e))

get_push : (held : List Standing) (s : Standing) → slice_get (held ++ s ∷ []) (length held) ≡ Some s
get_push [] s = refl
get_push (t ∷ held) s = get_push held s

get_before : (held : List Standing) (s : Standing) (k : ℕ) → k < length held → slice_get (held ++ s ∷ []) k ≡ slice_get held k
get_before [] s k h = absurd (omega arith)
get_before (t ∷ held) s zero h = refl
get_before (t ∷ held) s (suc k) h = get_before held s k (omega arith)

-- two indices have two positions
one_owner : (at owners : List ℕ) (idx i k j : ℕ) → AreOwners at owners → number_of at idx ≡ suc k → number_of at i ≡ suc j → i ≢ idx → j ≢ k
one_owner at owners idx i k j own e f other same = other (sym (own.owned i j f).1 ∙ (ap (slice_index owners) same ∙ (own.owned idx k e).1))

pub cells_lent : (at owners : List ℕ) (held : List Standing) (idx k : ℕ) (s : Standing) → AreOwners at owners → number_of at idx ≡ suc k → k < length held
    → cells_of at (slice_set held k s) ≡ slice_set (cells_of at held) idx (Some s)
cells_lent at owners held idx k s own e h =
    changed at at held (slice_set held k s) idx (Some s) refl (within_numbers at idx k e)
    (ap (named_by (slice_set held k s)) e ∙ get_set_same held k s h)
    (λ i other. by_number i other (number_of at i) refl)
  where
    by_number : (i : ℕ) → i ≢ idx → (n : ℕ) → number_of at i ≡ n → named_by (slice_set held k s) (number_of at i) ≡ named_by held (number_of at i)
    by_number i other zero f = rw f refl
    by_number i other (suc j) f = rw f (get_set_other held k j s (one_owner at owners idx i k j own e f other))

pub cells_put : (at owners : List ℕ) (held : List Standing) (idx : ℕ) (s : Standing) → AreOwners at owners → length held ≡ length owners → idx < length at
    → cells_of (slice_set at idx (suc (length owners))) (held ++ s ∷ []) ≡ slice_set (cells_of at held) idx (Some s)
cells_put at owners held idx s own both within =
    changed at (slice_set at idx (suc (length owners))) held (held ++ s ∷ []) idx (Some s) (length-set at idx (suc (length owners))) within
    (ap (named_by (held ++ s ∷ [])) (get_or-set_same at idx (suc (length owners)) 0 within) ∙ (ap (slice_get (held ++ s ∷ [])) (sym both) ∙ get_push held s))
    (λ i other. ap (named_by (held ++ s ∷ [])) (get_or-set_other at idx i (suc (length owners)) 0 other) ∙ by_number i (number_of at i) refl)
  where
    by_number : (i n : ℕ) → number_of at i ≡ n → named_by (held ++ s ∷ []) (number_of at i) ≡ named_by held (number_of at i)
    by_number i zero f = rw f refl
    by_number i (suc j) f = rw f (get_before held s j (omega (arith, (own.owned i j f).0, both)))

pub owners_put : (at owners : List ℕ) (idx : ℕ) → AreOwners at owners → idx < length at → number_of at idx ≡ 0 → AreOwners (slice_set at idx (suc (length owners))) (owners ++ idx ∷ [])
owners_put at owners idx own within free = record {
  numbered = λ k h. elim (cases_eq k (length owners)) [
    | inl e ↦ (let owner : slice_index (owners ++ idx ∷ []) k ≡ idx = get_or_push owners idx 0 k (sym e) in
        ap (number_of (slice_set at idx (suc (length owners)))) owner ∙ (get_or-set_same at idx (suc (length owners)) 0 within ∙ ap suc (sym e)))
    | inr other ↦ (let below : k < length owners = omega (arith, h, other, length_push owners idx) in
        let owner = get_or_append_left owners (idx ∷ []) 0 k below in
        let old = own.numbered k below in
        let differs : slice_index owners k ≢ idx = (λ (e : slice_index owners k ≡ idx). zero_suc k (sym free ∙ (ap (number_of at) (sym e) ∙ old))) in
        ap (number_of (slice_set at idx (suc (length owners)))) owner ∙ (get_or-set_other at idx (slice_index owners k) (suc (length owners)) 0 differs ∙ old))
  ];
  owned = λ i k e. elim (cases_eq i idx) [
    | inl same ↦ (let number : suc (length owners) ≡ suc k = sym (get_or-set_same at idx (suc (length owners)) 0 within) ∙ (ap (number_of (slice_set at idx (suc (length owners)))) (sym same) ∙ e) in
        let count = length_push owners idx in
        (omega arith, get_or_push owners idx 0 k (same_suc (length owners) k number) ∙ sym same))
    | inr other ↦ (let old = own.owned i k (sym (get_or-set_other at idx i (suc (length owners)) 0 other) ∙ e) in
        (omega (arith, old.0, length_push owners idx), get_or_append_left owners (idx ∷ []) 0 k old.0 ∙ old.1))
  ];
  full = omega (arith, free_set at idx (suc (length owners)) within, one_if-none (number_of at idx) free, one_if-some (suc (length owners)) (omega arith), own.full, length_push owners idx, length-set at idx (suc (length owners)));
}

-- the owner of the last position
pub last_owner : (at owners : List ℕ) (idx k n last : ℕ) → AreOwners at owners → number_of at idx ≡ suc k → n ≡ length owners → last ≡ get_or owners (n - 1) last → slice_index owners (n - 1) ≡ last
last_owner at owners idx k n last own is count read = sym (get_or_read owners (n - 1) last (omega (arith, (own.owned idx k is).0, count)) read 0)

pub last_within : (at owners : List ℕ) (idx k n last : ℕ) → AreOwners at owners → number_of at idx ≡ suc k → n ≡ length owners → last ≡ get_or owners (n - 1) last → last < length at
last_within at owners idx k n last own is count read =
    let end = last_owner at owners idx k n last own is count read in
    within_numbers at last (n - 1) (ap (number_of at) (sym end) ∙ own.numbered (n - 1) (omega (arith, (own.owned idx k is).0, count)))

-- it has a number
pub last_given : (at owners : List ℕ) (idx k n last : ℕ) → AreOwners at owners → number_of at idx ≡ suc k → n ≡ length owners → last ≡ get_or owners (n - 1) last → 0 < number_of at last
last_given at owners idx k n last own is count read =
    let end = last_owner at owners idx k n last own is count read in
    let number : number_of at last ≡ suc (n - 1) = ap (number_of at) (sym end) ∙ own.numbered (n - 1) (omega (arith, (own.owned idx k is).0, count)) in
    omega (arith, number)

-- and where it gets another one, what had one has one
pub still_given : (at : List ℕ) (idx k last n : ℕ) → number_of at idx ≡ suc k → n ≡ suc k → last < length at → 0 < number_of (slice_set at last n) idx
still_given at idx k last n is number within = elim (cases_eq idx last) [
  | inl same ↦ (let here : number_of (slice_set at last n) idx ≡ n = ap (number_of (slice_set at last n)) same ∙ get_or-set_same at last n 0 within in omega (arith, here, number))
  | inr other ↦ (let there : number_of (slice_set at last n) idx ≡ suc k = get_or-set_other at last idx n 0 other ∙ is in omega (arith, there))
]

-- what stands last takes the position of what goes
module _ (at owners new : List ℕ) (idx k last : ℕ) (own : AreOwners at owners) (is : number_of at idx ≡ suc k) (count : length new + 1 ≡ length owners) (end : slice_index owners (length new) ≡ last)
    (moved : k < length new → slice_index new k ≡ last) (kept : (j : ℕ) → j ≢ k → j < length new → slice_index new j ≡ slice_index owners j) where
  abbrev pub with_last : List ℕ
  with_last = slice_set at last (suc k)

  abbrev pub without : List ℕ
  without = slice_set with_last idx 0

  idx_within : idx < length at
  idx_within = within_numbers at idx k is

  idx_within_last : idx < length with_last
  idx_within_last = omega (arith, idx_within, length-set at last (suc k))

  last_number : number_of at last ≡ suc (length new)
  last_number = ap (number_of at) (sym end) ∙ own.numbered (length new) (omega (arith, count))

  last_in : last < length at
  last_in = within_numbers at last (length new) last_number

  at_idx : number_of without idx ≡ 0
  at_idx = get_or-set_same with_last idx 0 0 idx_within_last

  at_last : last ≢ idx → number_of without last ≡ suc k
  at_last other = get_or-set_other with_last idx last 0 0 other ∙ get_or-set_same at last (suc k) 0 last_in

  at_other : (i : ℕ) → i ≢ idx → i ≢ last → number_of without i ≡ number_of at i
  at_other i other differs = get_or-set_other with_last idx i 0 0 other ∙ get_or-set_other at last i (suc k) 0 differs

  -- an index that is not the one that goes: the last one, or one that keeps its position
  owned_there : (i j : ℕ) → number_of without i ≡ suc j → (j < length new) × (slice_index new j ≡ i)
  owned_there i j e = elim (cases_eq i idx) [
    | inl same ↦ zero_suc j (sym at_idx ∙ (ap (number_of without) (sym same) ∙ e))
    | inr other ↦ elim (cases_eq i last) [
      | inl same ↦ (let differs : last ≢ idx = (λ (f : last ≡ idx). other (same ∙ f)) in
          let spot : k ≡ j = same_suc k j (sym (at_last differs) ∙ (ap (number_of without) (sym same) ∙ e)) in
          let apart : k ≢ length new = (λ (f : k ≡ length new). differs (sym end ∙ (ap (slice_index owners) (sym f) ∙ (own.owned idx k is).1))) in
          let below : k < length new = omega (arith, (own.owned idx k is).0, count, apart) in
          (omega (arith, below, spot), ap (slice_index new) (sym spot) ∙ (moved below ∙ sym same)))
      | inr differs ↦ (let old = own.owned i j (sym (at_other i other differs) ∙ e) in
          let not_end : j ≢ length new = (λ (f : j ≡ length new). differs (sym old.1 ∙ (ap (slice_index owners) f ∙ end))) in
          let not_k : j ≢ k = (λ (f : j ≡ k). other (sym old.1 ∙ (ap (slice_index owners) f ∙ (own.owned idx k is).1))) in
          let below : j < length new = omega (arith, old.0, count, not_end) in
          (below, kept j not_k below ∙ old.1))
    ]
  ]

  numbered_there : (j : ℕ) → j < length new → number_of without (slice_index new j) ≡ suc j
  numbered_there j h = elim (cases_eq j k) [
    | inl same ↦ (let below : k < length new = omega (arith, h, same) in
        let differs : last ≢ idx = (λ (f : last ≡ idx). let numbers : suc (length new) ≡ suc k = sym last_number ∙ (ap (number_of at) f ∙ is) in absurd (omega (arith, numbers, below))) in
        ap (number_of without) (ap (slice_index new) same ∙ moved below) ∙ (at_last differs ∙ ap suc (sym same)))
    | inr not_k ↦ (let owner = kept j not_k h in
        let number : number_of at (slice_index owners j) ≡ suc j = own.numbered j (omega (arith, h, count)) in
        let other : slice_index owners j ≢ idx = (λ (f : slice_index owners j ≡ idx). not_k (same_suc j k (sym number ∙ (ap (number_of at) f ∙ is)))) in
        let differs : slice_index owners j ≢ last = (λ (f : slice_index owners j ≡ last). let numbers : suc j ≡ suc (length new) = sym number ∙ (ap (number_of at) f ∙ last_number) in absurd (omega (arith, numbers, h))) in
        ap (number_of without) owner ∙ (at_other (slice_index owners j) other differs ∙ number))
  ]

  number_before : (n : ℕ) → number_of with_last idx ≡ n → 0 < n
  number_before n e = elim (cases_eq idx last) [
    | inl same ↦ (let number : suc k ≡ n = sym (get_or-set_same at last (suc k) 0 last_in) ∙ (ap (number_of with_last) (sym same) ∙ e) in omega (arith, number))
    | inr other ↦ (let number : suc k ≡ n = sym (get_or-set_other at last idx (suc k) 0 other ∙ is) ∙ e in omega (arith, number))
  ]

  full_there : free_count without + length new ≡ length without
  full_there =
      let first = free_set at last (suc k) last_in in
      let second = free_set with_last idx 0 idx_within_last in
      omega (
        arith,
        first,
        second,
        one_if-some (suc k) (omega arith),
        one_if-some (number_of at last) (omega (arith, last_number)),
        one_if-none 0 refl,
        one_if-some (number_of with_last idx) (number_before (number_of with_last idx) refl),
        own.full,
        count,
        length-set at last (suc k),
        length-set with_last idx 0,
      )

  pub owners_taken : AreOwners without new
  owners_taken = record { numbered = numbered_there; owned = owned_there; full = full_there }

  -- the same of what stands
  module _ (held after : List Standing) (s : Standing) (both : length held ≡ length owners) (fewer : length after + 1 ≡ length held)
      (end_moved : k < length after → get_or after k s ≡ get_or held (length after) s) (others_kept : (j : ℕ) → j ≢ k → j < length after → get_or after j s ≡ get_or held j s) where
    named_there : (i : ℕ) → i ≢ idx → named_by after (number_of without i) ≡ named_by held (number_of at i)
    named_there i other = by_number (number_of at i) refl
      where
        by_number : (n : ℕ) → number_of at i ≡ n → named_by after (number_of without i) ≡ named_by held (number_of at i)
        by_number zero e =
            let differs : i ≢ last = (λ (f : i ≡ last). zero_suc (length new) (sym e ∙ (ap (number_of at) f ∙ last_number))) in
            ap (named_by after) (at_other i other differs ∙ e) ∙ ap (named_by held) (sym e)
        by_number (suc j) e =
            let old = own.owned i j e in
            let j_within : j < length held = omega (arith, old.0, both) in
            let not_k : j ≢ k = one_owner at owners idx i k j own is e other in
            elim (cases_eq i last) [
              | inl same ↦ (let differs : last ≢ idx = (λ (f : last ≡ idx). other (same ∙ f)) in
                  let spot : j ≡ length new = same_suc j (length new) (sym e ∙ (ap (number_of at) same ∙ last_number)) in
                  let end_spot : j ≡ length after = omega (arith, spot, count, fewer, both) in
                  let below : k < length after = omega (arith, end_spot, not_k, (own.owned idx k is).0, count, fewer, both) in
                  ap (named_by after) (ap (number_of without) same ∙ at_last differs) ∙ (slice_get-get_or after k s below ∙ (ap (λ (t : Standing). Some t) (end_moved below ∙ ap (λ (n : ℕ). get_or held n s) (sym end_spot)) ∙ (sym (slice_get-get_or held j s j_within) ∙ ap (named_by held) (sym e)))))
              | inr differs ↦ (let not_end : j ≢ length new = (λ (f : j ≡ length new). differs (sym old.1 ∙ (ap (slice_index owners) f ∙ end))) in
                  let below : j < length after = omega (arith, j_within, fewer, not_end, both, count) in
                  ap (named_by after) (at_other i other differs ∙ e) ∙ (slice_get-get_or after j s below ∙ (ap (λ (t : Standing). Some t) (others_kept j not_k below) ∙ (sym (slice_get-get_or held j s j_within) ∙ ap (named_by held) (sym e)))))
            ]

    pub cells_taken : cells_of without after ≡ slice_set (cells_of at held) idx None
    cells_taken = changed at without held after idx None (length-set with_last idx 0 ∙ length-set at last (suc k)) idx_within (ap (named_by after) at_idx) named_there

-- what stands last goes
module _ (at owners new : List ℕ) (idx x : ℕ) (own : AreOwners at owners) (is : number_of at idx ≡ suc (length new)) (are : owners ≡ new ++ x ∷ []) where
  count : length new + 1 ≡ length owners
  count = sym (ap (λ (xs : List ℕ). length xs) are ∙ length_push new x)

  not_below : {X : Type 0} (n : ℕ) → n < n → X
  not_below n h = absurd (omega (arith, h))

  kept : (j : ℕ) → j ≢ length new → j < length new → slice_index new j ≡ slice_index owners j
  kept j other below = sym (ap (λ (xs : List ℕ). slice_index xs j) are ∙ get_or_append_left new (x ∷ []) 0 j below)

  pub owners_ended : AreOwners (slice_set at idx 0) new
  owners_ended = subst (λ (numbers : List ℕ). AreOwners numbers new) (set-set at idx (suc (length new)) 0)
      (owners_taken at owners new idx (length new) idx own is count (own.owned idx (length new) is).1 (λ below. not_below (length new) below) kept)

  module _ (held after : List Standing) (s : Standing) (both : length held ≡ length owners) (all : held ≡ after ++ s ∷ []) where
    fewer : length after + 1 ≡ length held
    fewer = sym (ap (λ (xs : List Standing). length xs) all ∙ length_push after s)

    spot : length after ≡ length new
    spot = omega (arith, fewer, both, count)

    pub cells_ended : cells_of (slice_set at idx 0) after ≡ slice_set (cells_of at held) idx None
    cells_ended = subst (λ (numbers : List ℕ). cells_of numbers after ≡ slice_set (cells_of at held) idx None) (set-set at idx (suc (length new)) 0)
        (cells_taken at owners new idx (length new) idx own is count (own.owned idx (length new) is).1 (λ below. not_below (length new) below) kept held after s both fewer
        (λ below. absurd (omega (arith, below, spot)))
        (λ j other below. sym (ap (λ (xs : List Standing). get_or xs j s) all ∙ get_or_append_left after (s ∷ []) s j below)))

    pub ended_read : cell_at (cells_of at held) idx ≡ Some s
    ended_read = standing_read at held idx (length new) s is (omega (arith, fewer, spot)) (sym (ap (λ (xs : List Standing). get_or xs (length new) s) all ∙ get_or_push after s s (length new) spot))
