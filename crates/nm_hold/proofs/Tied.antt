-- Cells and tables that tell the same: after a buffer comes, goes, or changes places with another.
use Rattle.std.proofs.Common.{ℕ, zero, suc, ◌≡◌, ◌≢◌, ◌<◌, ◌≤◌, true, false, nat_eq, if◌then◌else◌, List, [], ◌∷◌, length, slice_set, Option, Some, None, inl, inr, refl, sym, ◌∙◌, ap, arith}
use Rattle.std.proofs.lemmas.Bool.{cases_Bool}
use Rattle.std.proofs.lemmas.Bool.Decides.{nat_tests}
use Rattle.std.proofs.lemmas.List.{get_or-set_same, get_or-set_other}
use Rattle.std.proofs.lemmas.Option.{same_Some}
use Rattle.nm_types.specs.declared.place.Place.{Place}
use Rattle.nm_types.specs.Places.{held_at, is_same_place}
use Rattle.nm_types.proofs.Tests.{true_false}
use Rattle.nm_hold.specs.declared.standing.Standing.{Standing}
use Rattle.nm_hold.specs.declared.table.PortTable.{PortTable}
use Rattle.nm_hold.specs.Tables.{number_at}
use Rattle.nm_hold.specs.Holds.{cell_at, places_in, stands_at}
use Rattle.nm_hold.specs.Ties.{StandsRightly, IsTied}
use Rattle.nm_hold.proofs.Spots.{nat_eq-is, same_place-is, same_place-refl}

-- a place's number as what its look-up gives
abbrev pub number_if : ℕ → Option ℕ
number_if zero = None
number_if (suc n) = Some (suc n)

pub number_if-some : (n : ℕ) → 0 < n → number_if n ≡ Some n
number_if-some zero h = absurd (omega arith)
number_if-some (suc n) h = refl

stands-some : (p : Place) (cell : Option Standing) → stands_at p cell ≡ true → (s : Standing) × (cell ≡ Some s) × (is_same_place p s.home.place ≡ true)
stands-some p None e = cc
stands-some p (Some s) e = (s, refl, e)

-- the first place in a list that is this one
held-found : (cells : List (Option Standing)) (p : Place) (n i : ℕ) → ((idx : ℕ) (s : Standing) → cell_at cells idx ≡ Some s → is_same_place p s.home.place ≡ true → s.buf.index ≡ n)
    → stands_at p (cell_at cells i) ≡ true → held_at (places_in cells) p ≡ Some n
held-found [] p n i all there = cc
held-found (None ∷ cells) p n zero all there = cc
held-found (None ∷ cells) p n (suc i) all there = held-found cells p n i (λ idx s e f. all (suc idx) s e f) there
held-found (Some s ∷ cells) p n i all there = elim (cases_Bool (is_same_place p s.home.place)) [
  | inl same ↦ rw same (ap (λ (x : ℕ). Some x) (all 0 s refl same))
  | inr apart ↦ rw apart (later i there apart (λ j f. held-found cells p n j (λ idx t e g. all (suc idx) t e g) f))
]
  where
    later : (i : ℕ) → stands_at p (cell_at (Some s ∷ cells) i) ≡ true → is_same_place p s.home.place ≡ false
        → ((j : ℕ) → stands_at p (cell_at cells j) ≡ true → held_at (places_in cells) p ≡ Some n) → held_at (places_in cells) p ≡ Some n
    later zero there apart rest = true_false (sym there ∙ apart)
    later (suc i) there apart rest = rest i there

held-missing : (cells : List (Option Standing)) (p : Place) → ((idx : ℕ) (s : Standing) → cell_at cells idx ≡ Some s → is_same_place p s.home.place ≡ false) → held_at (places_in cells) p ≡ None
held-missing [] p all = refl
held-missing (None ∷ cells) p all = held-missing cells p (λ idx s e. all (suc idx) s e)
held-missing (Some s ∷ cells) p all = rw (all 0 s refl) (held-missing cells p (λ idx t e. all (suc idx) t e))

-- what stands in a place is what its number says
pub held-number : (cells : List (Option Standing)) (tables : List PortTable) (p : Place) → IsTied cells tables → held_at (places_in cells) p ≡ number_if (number_at tables p)
held-number cells tables p tied = by_number (number_at tables p) refl
  where
    by_number : (n : ℕ) → number_at tables p ≡ n → held_at (places_in cells) p ≡ number_if n
    by_number zero e = held-missing cells p (λ idx s f. elim (cases_Bool (is_same_place p s.home.place)) [
      | inl same ↦ (let right = tied.standing idx s f in let here : p ≡ s.home.place = same_place-is p s.home.place same in
          let number : number_at tables p ≡ idx = ap (number_at tables) here ∙ right.number in absurd (omega (arith, right.low)))
      | inr apart ↦ apart
    ])
    by_number (suc n) e =
        let there = tied.numbered p (omega arith) in
        held-found cells p (suc n) (number_at tables p) (λ idx s f same.
        let right = tied.standing idx s f in let here : p ≡ s.home.place = same_place-is p s.home.place same in
        let number : number_at tables p ≡ idx = ap (number_at tables) here ∙ right.number in
        omega (arith, right.index)) there

-- the buffer that a place's number names
pub standing_by_number : (cells : List (Option Standing)) (tables : List PortTable) (p : Place) → IsTied cells tables → 0 < number_at tables p
    → (s : Standing) × (cell_at cells (number_at tables p) ≡ Some s) × (s.home.place ≡ p)
standing_by_number cells tables p tied h =
    let found = stands-some p (cell_at cells (number_at tables p)) (tied.numbered p h) in
    (found.0, found.1, sym (same_place-is p found.0.home.place found.2))

pub within_cells : (cells : List (Option Standing)) (idx : ℕ) (s : Standing) → cell_at cells idx ≡ Some s → idx < length cells
within_cells [] idx s e = cc
within_cells (c ∷ cells) zero s e = omega arith
within_cells (c ∷ cells) (suc idx) s e = omega (arith, within_cells cells idx s e)

-- the numbers after one has been put at a place
abbrev pub PutAt : Place → ℕ → List PortTable → List PortTable → Type 0
PutAt p number tables new = (q : Place) → number_at new q ≡ (if is_same_place p q then number else number_at tables q)

put_here : (p : Place) (number : ℕ) (tables new : List PortTable) → PutAt p number tables new → number_at new p ≡ number
put_here p number tables new put = rw (put p, same_place-refl p) refl

put_other : (p q : Place) (number : ℕ) (tables new : List PortTable) → PutAt p number tables new → is_same_place p q ≡ false → number_at new q ≡ number_at tables q
put_other p q number tables new put apart = rw (put q, apart) refl

-- tables with the same numbers
pub tied-same : (cells : List (Option Standing)) (tables new : List PortTable) → IsTied cells tables → ((p : Place) → number_at new p ≡ number_at tables p) → IsTied cells new
tied-same cells tables new tied same = record {
  standing = λ idx s e. (let right = tied.standing idx s e in record { low = right.low; index = right.index; number = same s.home.place ∙ right.number });
  numbered = λ p h. (let e = same p in rw e (tied.numbered p (omega arith)));
}

-- a buffer comes to a place that holds none
pub tied-added : (cells : List (Option Standing)) (tables new : List PortTable) (p : Place) (idx : ℕ) (s : Standing) → IsTied cells tables → number_at tables p ≡ 0 → PutAt p idx tables new
    → cell_at cells idx ≡ None → idx < length cells → 2 ≤ idx → s.home.place ≡ p → s.buf.index ≡ idx → IsTied (slice_set cells idx (Some s)) new
tied-added cells tables new p idx s tied empty put none within low place index = record {
  standing = λ i t e. elim (cases_Bool (nat_eq i idx)) [
    | inl same ↦ (let at : i ≡ idx = nat_eq-is i idx same in
        let is : s ≡ t = same_Some s t (sym (get_or-set_same cells idx (Some s) None within) ∙ (ap (λ (k : ℕ). cell_at (slice_set cells idx (Some s)) k) (sym at) ∙ e)) in
        rw (at, ← is) (record { low = low; index = index; number = ap (number_at new) place ∙ put_here p idx tables new put }))
    | inr differs ↦ (let other : i ≢ idx = apart_from i idx differs in
        let before : cell_at cells i ≡ Some t = sym (get_or-set_other cells idx i (Some s) None other) ∙ e in
        let right = tied.standing i t before in
        record { low = right.low; index = right.index; number = put_other p t.home.place idx tables new put (not_here i t right) ∙ right.number })
  ];
  numbered = λ q h. elim (cases_Bool (is_same_place p q)) [
    | inl same ↦ (let here : p ≡ q = same_place-is p q same in
        let number : number_at new q ≡ idx = rw (put q, same) refl in
        let cell : cell_at (slice_set cells idx (Some s)) (number_at new q) ≡ Some s = rw number (get_or-set_same cells idx (Some s) None within) in
        rw (cell, place, ← here) (same_place-refl p))
    | inr apart ↦ (let number = put_other p q idx tables new put apart in
        let old = tied.numbered q (omega arith) in
        let found = stands-some q (cell_at cells (number_at tables q)) old in
        let other : number_at tables q ≢ idx = (λ (e : number_at tables q ≡ idx). none_is_some found.0 (sym none ∙ (ap (cell_at cells) (sym e) ∙ found.1))) in
        rw (number, get_or-set_other cells idx (number_at tables q) (Some s) None other) old)
  ];
}
  where
    apart_from : (i j : ℕ) → nat_eq i j ≡ false → i ≢ j
    apart_from i j e f = let same : nat_eq i j ≡ true = grind (arith, nat_tests) in true_false (sym same ∙ e)

    none_is_some : (s : Standing) → None ≡ Some s → ⊥
    none_is_some s e = cc

    not_here : (i : ℕ) (t : Standing) → StandsRightly tables i t → is_same_place p t.home.place ≡ false
    not_here i t right = elim (cases_Bool (is_same_place p t.home.place)) [
      | inl same ↦ (let here : p ≡ t.home.place = same_place-is p t.home.place same in let number : number_at tables p ≡ i = ap (number_at tables) here ∙ right.number in absurd (omega (arith, right.low)))
      | inr apart ↦ apart
    ]

-- a buffer leaves its place
pub tied-removed : (cells : List (Option Standing)) (tables new : List PortTable) (p : Place) → IsTied cells tables → 0 < number_at tables p → PutAt p 0 tables new
    → IsTied (slice_set cells (number_at tables p) None) new
tied-removed cells tables new p tied some put = record {
  standing = λ i t e. elim (cases_Bool (nat_eq i (number_at tables p))) [
    | inl same ↦ (let at : i ≡ number_at tables p = nat_eq-is i (number_at tables p) same in
        let found = standing_by_number cells tables p tied some in
        let within = within_cells cells (number_at tables p) found.0 found.1 in
        absurd (none_is_some t (sym (get_or-set_same cells (number_at tables p) None None within) ∙ (ap (cell_at (slice_set cells (number_at tables p) None)) (sym at) ∙ e))))
    | inr differs ↦ (let other : i ≢ number_at tables p = apart_from i (number_at tables p) differs in
        let before : cell_at cells i ≡ Some t = sym (get_or-set_other cells (number_at tables p) i None None other) ∙ e in
        let right = tied.standing i t before in
        record { low = right.low; index = right.index; number = put_other p t.home.place 0 tables new put (not_here i t right other) ∙ right.number })
  ];
  numbered = λ q h. elim (cases_Bool (is_same_place p q)) [
    | inl same ↦ (let number : number_at new q ≡ 0 = rw (put q, same) refl in absurd (omega arith))
    | inr apart ↦ (let number = put_other p q 0 tables new put apart in
        let old = tied.numbered q (omega arith) in
        let other : number_at tables q ≢ number_at tables p = (λ (e : number_at tables q ≡ number_at tables p).
        let here = standing_by_number cells tables p tied some in
        let there = standing_by_number cells tables q tied (omega arith) in
        let one : here.0 ≡ there.0 = same_Some here.0 there.0 (sym here.1 ∙ (ap (cell_at cells) (sym e) ∙ there.1)) in
        let places : p ≡ q = sym here.2 ∙ (ap (λ (s : Standing). s.home.place) one ∙ there.2) in
        true_false (sym (same_place-refl p) ∙ (ap (is_same_place p) places ∙ apart))) in
        rw (number, get_or-set_other cells (number_at tables p) (number_at tables q) None None other) old)
  ];
}
  where
    apart_from : (i j : ℕ) → nat_eq i j ≡ false → i ≢ j
    apart_from i j e f = let same : nat_eq i j ≡ true = grind (arith, nat_tests) in true_false (sym same ∙ e)

    none_is_some : (s : Standing) → None ≡ Some s → ⊥
    none_is_some s e = cc

    not_here : (i : ℕ) (t : Standing) → StandsRightly tables i t → i ≢ number_at tables p → is_same_place p t.home.place ≡ false
    not_here i t right other = elim (cases_Bool (is_same_place p t.home.place)) [
      | inl same ↦ (let here : p ≡ t.home.place = same_place-is p t.home.place same in let number : number_at tables p ≡ i = ap (number_at tables) here ∙ right.number in absurd (other (sym number)))
      | inr apart ↦ apart
    ]

-- a buffer keeps its place and its index, whatever else of it changes
pub tied-kept : (cells : List (Option Standing)) (tables : List PortTable) (idx : ℕ) (s new : Standing) → IsTied cells tables → cell_at cells idx ≡ Some s → new.home.place ≡ s.home.place → new.buf.index ≡ s.buf.index
    → IsTied (slice_set cells idx (Some new)) tables
tied-kept cells tables idx s new tied was place index = record {
  standing = λ i t e. elim (cases_Bool (nat_eq i idx)) [
    | inl same ↦ (let at : i ≡ idx = nat_eq-is i idx same in
        let is : new ≡ t = same_Some new t (sym (get_or-set_same cells idx (Some new) None within) ∙ (ap (cell_at (slice_set cells idx (Some new))) (sym at) ∙ e)) in
        let right = tied.standing idx s was in
        rw (at, ← is) (record { low = right.low; index = index ∙ right.index; number = ap (number_at tables) place ∙ right.number }))
    | inr differs ↦ (let other : i ≢ idx = apart_from i idx differs in
        tied.standing i t (sym (get_or-set_other cells idx i (Some new) None other) ∙ e))
  ];
  numbered = λ q h. elim (cases_Bool (nat_eq (number_at tables q) idx)) [
    | inl same ↦ (let at : number_at tables q ≡ idx = nat_eq-is (number_at tables q) idx same in
        let old : stands_at q (Some s) ≡ true = rw (at, was) at (tied.numbered q h) in
        rw (at, get_or-set_same cells idx (Some new) None within, place) old)
    | inr differs ↦ (let other : number_at tables q ≢ idx = apart_from (number_at tables q) idx differs in
        rw (get_or-set_other cells idx (number_at tables q) (Some new) None other) (tied.numbered q h))
  ];
}
  where
    within : idx < length cells
    within = within_cells cells idx s was

    apart_from : (i j : ℕ) → nat_eq i j ≡ false → i ≢ j
    apart_from i j e f = let same : nat_eq i j ≡ true = grind (arith, nat_tests) in true_false (sym same ∙ e)
