-- Two buffers that have changed places.
use Rattle.std.proofs.Common.{ℕ, zero, suc, ◌≡◌, ◌≢◌, ◌<◌, true, false, nat_eq, if◌then◌else◌, List, length, map, slice_set, Option, Some, None, option_map, inl, inr, refl, sym, ◌∙◌, ap, subst, arith}
use Rattle.std.proofs.lemmas.Bool.{cases_Bool}
use Rattle.std.proofs.lemmas.Bool.Decides.{nat_tests}
use Rattle.std.proofs.lemmas.List.{get_or-set_same, get_or-set_other, length-set}
use Rattle.std.proofs.Math.Seq.{map-set_same}
use Rattle.std.proofs.lemmas.Option.{same_Some}
use Rattle.nm_types.specs.declared.place.Place.{Place}
use Rattle.nm_types.specs.Places.{Held, held_at, is_same_place}
use Rattle.nm_types.specs.Exchange.{exchanged, swapped}
use Rattle.nm_types.proofs.Exchanges.{swapped-first, swapped-second, swapped-other, held_at-exchanged}
use Rattle.nm_types.proofs.Tests.{true_false}
use Rattle.nm_hold.specs.declared.standing.Home.{Home}
use Rattle.nm_hold.specs.declared.standing.Standing.{Standing}
use Rattle.nm_hold.specs.declared.table.PortTable.{PortTable}
use Rattle.nm_hold.specs.Standings.{buf_in}
use Rattle.std.specs.Prelude.{All}
use Rattle.nm_hold.specs.Offsets.{has_place}
use Rattle.nm_hold.specs.Tables.{IsTable, ports_of, put_in, number_at}
use Rattle.nm_hold.proofs.Numbers.{ports_of-put, has_place-from_number}
use Rattle.nm_hold.proofs.Steps.{put_number, put_are_tables}
use Rattle.nm_hold.specs.Holds.{cell_at, places_in, is_named_in}
use Rattle.nm_hold.specs.Ties.{IsTied}
use Rattle.nm_hold.proofs.Spots.{nat_eq-is, same_place-is, same_place-refl}
use Rattle.nm_hold.proofs.Tied.{number_if, number_if-some, held-number, standing_by_number, within_cells}

apart_from : (i j : ℕ) → nat_eq i j ≡ false → i ≢ j
apart_from i j e f = let same : nat_eq i j ≡ true = grind (arith, nat_tests) in true_false (sym same ∙ e)

-- a buffer in a place, and another one at its index, with their tables as they are afterwards
pub record Exchange (cells : List (Option Standing)) (tables new : List PortTable) (place : Place) (idx : ℕ) (s t : Standing) : Type 0 where
  pub tied : IsTied cells tables
  pub held : 0 < number_at tables place
  pub here : cell_at cells (number_at tables place) ≡ Some s
  pub there : cell_at cells idx ≡ Some t
  pub other : idx ≢ number_at tables place
  pub numbers : (q : Place) → number_at new q ≡ (if is_same_place t.home.place q then number_at tables place else if is_same_place place q then idx else number_at tables q)

module _ (cells : List (Option Standing)) (tables new : List PortTable) (place : Place) (idx : ℕ) (s t : Standing) (x : Exchange cells tables new place idx s t) where
  abbrev pub was : ℕ
  was = number_at tables place

  abbrev pub moved_here : Standing
  moved_here = record t { home = s.home }

  abbrev pub moved_there : Standing
  moved_there = record s { home = t.home }

  abbrev pub moved : List (Option Standing)
  moved = slice_set (slice_set cells was (Some moved_there)) idx (Some moved_here)

  place_of_s : s.home.place ≡ place
  place_of_s = let found = standing_by_number cells tables place x.tied x.held in ap (λ (u : Standing). u.home.place) (same_Some s found.0 (sym x.here ∙ found.1)) ∙ found.2

  number_of_t : number_at tables t.home.place ≡ idx
  number_of_t = (x.tied.standing idx t x.there).number

  apart : is_same_place t.home.place place ≡ false
  apart = elim (cases_Bool (is_same_place t.home.place place)) [
    | inl same ↦ absurd (x.other (sym number_of_t ∙ ap (number_at tables) (same_place-is t.home.place place same)))
    | inr differs ↦ differs
  ]

  was_within : was < length cells
  was_within = within_cells cells was s x.here

  idx_within : idx < length cells
  idx_within = within_cells cells idx t x.there

  pub count_moved : length moved ≡ length cells
  count_moved = length-set (slice_set cells was (Some moved_there)) idx (Some moved_here) ∙ length-set cells was (Some moved_there)

  pub cell_idx : cell_at moved idx ≡ Some moved_here
  cell_idx = get_or-set_same (slice_set cells was (Some moved_there)) idx (Some moved_here) None (omega (arith, idx_within, length-set cells was (Some moved_there)))

  pub cell_was : cell_at moved was ≡ Some moved_there
  cell_was = get_or-set_other (slice_set cells was (Some moved_there)) idx was (Some moved_here) None (λ e. x.other (sym e)) ∙ get_or-set_same cells was (Some moved_there) None was_within

  pub cell_other : (i : ℕ) → i ≢ idx → i ≢ was → cell_at moved i ≡ cell_at cells i
  cell_other i h k = get_or-set_other (slice_set cells was (Some moved_there)) idx i (Some moved_here) None h ∙ get_or-set_other cells was i (Some moved_there) None k

  number_here : number_at new place ≡ idx
  number_here = rw (x.numbers place, apart, same_place-refl place) refl

  number_there : number_at new t.home.place ≡ was
  number_there = rw (x.numbers t.home.place, same_place-refl t.home.place) refl

  number_other : (q : Place) → number_at tables q ≢ was → number_at tables q ≢ idx → number_at new q ≡ number_at tables q
  number_other q h k = elim (cases_Bool (is_same_place t.home.place q)) [
    | inl same ↦ absurd (k (ap (number_at tables) (sym (same_place-is t.home.place q same)) ∙ number_of_t))
    | inr differs ↦ elim (cases_Bool (is_same_place place q)) [
      | inl same ↦ absurd (h (ap (number_at tables) (sym (same_place-is place q same))))
      | inr other ↦ rw (x.numbers q, differs, other) refl
    ]
  ]

  -- each place is one of the two, or keeps its number
  place_by_was : (q : Place) → number_at tables q ≡ was → place ≡ q
  place_by_was q e =
      let found = standing_by_number cells tables q x.tied (omega (arith, x.held)) in
      let one : s ≡ found.0 = same_Some s found.0 (sym x.here ∙ (ap (cell_at cells) (sym e) ∙ found.1)) in
      sym place_of_s ∙ (ap (λ (u : Standing). u.home.place) one ∙ found.2)

  place_by_idx : (q : Place) → number_at tables q ≡ idx → t.home.place ≡ q
  place_by_idx q e =
      let low = (x.tied.standing idx t x.there).low in
      let found = standing_by_number cells tables q x.tied (omega arith) in
      let one : t ≡ found.0 = same_Some t found.0 (sym x.there ∙ (ap (cell_at cells) (sym e) ∙ found.1)) in
      ap (λ (u : Standing). u.home.place) one ∙ found.2

  pub tied_moved : IsTied moved new
  tied_moved = record {
    standing = λ i u e. elim (cases_Bool (nat_eq i idx)) [
      | inl same ↦ (let at : i ≡ idx = nat_eq-is i idx same in
          let is : moved_here ≡ u = same_Some moved_here u (sym cell_idx ∙ (ap (cell_at moved) (sym at) ∙ e)) in
          let right = x.tied.standing idx t x.there in
          rw (at, ← is) (record { low = right.low; index = right.index; number = ap (number_at new) place_of_s ∙ number_here }))
      | inr not_idx ↦ elim (cases_Bool (nat_eq i was)) [
        | inl same ↦ (let at : i ≡ was = nat_eq-is i was same in
            let is : moved_there ≡ u = same_Some moved_there u (sym cell_was ∙ (ap (cell_at moved) (sym at) ∙ e)) in
            let right = x.tied.standing was s x.here in
            rw (at, ← is) (record { low = right.low; index = right.index; number = number_there }))
        | inr not_was ↦ (let before : cell_at cells i ≡ Some u = sym (cell_other i (apart_from i idx not_idx) (apart_from i was not_was)) ∙ e in
            let right = x.tied.standing i u before in
            let number = number_other u.home.place (λ f. apart_from i was not_was (sym right.number ∙ f)) (λ f. apart_from i idx not_idx (sym right.number ∙ f)) in
            record { low = right.low; index = right.index; number = number ∙ right.number })
      ]
    ];
    numbered = λ q h. elim (cases_Bool (nat_eq (number_at tables q) was)) [
      | inl same ↦ (let at : place ≡ q = place_by_was q (nat_eq-is (number_at tables q) was same) in
          let number : number_at new q ≡ idx = ap (number_at new) (sym at) ∙ number_here in
          rw (number, cell_idx, place_of_s, ← at) (same_place-refl place))
      | inr not_was ↦ elim (cases_Bool (nat_eq (number_at tables q) idx)) [
        | inl same ↦ (let at : t.home.place ≡ q = place_by_idx q (nat_eq-is (number_at tables q) idx same) in
            let number : number_at new q ≡ was = ap (number_at new) (sym at) ∙ number_there in
            rw (number, cell_was, ← at) (same_place-refl t.home.place))
        | inr not_idx ↦ (let number = number_other q (apart_from (number_at tables q) was not_was) (apart_from (number_at tables q) idx not_idx) in
            let cell = cell_other (number_at tables q) (apart_from (number_at tables q) idx not_idx) (apart_from (number_at tables q) was not_was) in
            rw (number, cell) (x.tied.numbered q (omega arith)))
      ]
    ];
  }

  swapped_number : (q : Place) → number_if (number_at new q) ≡ option_map (swapped was idx) (number_if (number_at tables q))
  swapped_number q = elim (cases_Bool (nat_eq (number_at tables q) was)) [
    | inl same ↦ (let e = nat_eq-is (number_at tables q) was same in
        let at : place ≡ q = place_by_was q e in
        let number : number_at new q ≡ idx = ap (number_at new) (sym at) ∙ number_here in
        let low = (x.tied.standing idx t x.there).low in
        rw (number, e, number_if-some idx (omega arith), number_if-some was x.held) (sym (ap (λ (n : ℕ). Some n) (swapped-first was idx))))
    | inr not_was ↦ elim (cases_Bool (nat_eq (number_at tables q) idx)) [
      | inl same ↦ (let e = nat_eq-is (number_at tables q) idx same in
          let at : t.home.place ≡ q = place_by_idx q e in
          let number : number_at new q ≡ was = ap (number_at new) (sym at) ∙ number_there in
          let low = (x.tied.standing idx t x.there).low in
          rw (number, e, number_if-some idx (omega arith), number_if-some was x.held) (sym (ap (λ (n : ℕ). Some n) (swapped-second was idx))))
      | inr not_idx ↦ (let number = number_other q (apart_from (number_at tables q) was not_was) (apart_from (number_at tables q) idx not_idx) in
          rw number (stays (number_at tables q) (apart_from (number_at tables q) was not_was) (apart_from (number_at tables q) idx not_idx)))
    ]
  ]
    where
      stays : (n : ℕ) → n ≢ was → n ≢ idx → number_if n ≡ option_map (swapped was idx) (number_if n)
      stays zero h k = refl
      stays (suc n) h k = sym (ap (λ (m : ℕ). Some m) (swapped-other was idx (suc n) h k))

  pub places_moved : (q : Place) → held_at (places_in moved) q ≡ held_at (exchanged (places_in cells) place idx) q
  places_moved q =
      let old : held_at (places_in cells) place ≡ Some was = held-number cells tables place x.tied ∙ number_if-some was x.held in
      held-number moved new q tied_moved ∙ (swapped_number q ∙ (ap (option_map (swapped was idx)) (sym (held-number cells tables q x.tied)) ∙ sym (held_at-exchanged (places_in cells) place idx was q old)))

  pub bufs_moved : (i : ℕ) → buf_in (cell_at moved i) ≡ buf_in (cell_at cells i)
  bufs_moved i = elim (cases_Bool (nat_eq i idx)) [
    | inl same ↦ (let at : i ≡ idx = nat_eq-is i idx same in rw (at, cell_idx, x.there) refl)
    | inr not_idx ↦ elim (cases_Bool (nat_eq i was)) [
      | inl same ↦ (let at : i ≡ was = nat_eq-is i was same in rw (at, cell_was, x.here) refl)
      | inr not_was ↦ ap buf_in (cell_other i (apart_from i idx not_idx) (apart_from i was not_was))
    ]
  ]

  pub all_moved : map buf_in moved ≡ map buf_in cells
  all_moved =
      let still : cell_at (slice_set cells was (Some moved_there)) idx ≡ Some t = get_or-set_other cells was idx (Some moved_there) None x.other ∙ x.there in
      map-set_same buf_in (slice_set cells was (Some moved_there)) idx (Some moved_here) None (sym (ap buf_in still)) ∙ map-set_same buf_in cells was (Some moved_there) None (sym (ap buf_in x.here))

  pub named_moved : (i : ℕ) → is_named_in (cell_at moved i) ≡ is_named_in (cell_at cells (swapped was idx i))
  named_moved i = elim (cases_Bool (nat_eq i idx)) [
    | inl same ↦ (let at : i ≡ idx = nat_eq-is i idx same in rw (at, cell_idx, swapped-second was idx, x.here) refl)
    | inr not_idx ↦ elim (cases_Bool (nat_eq i was)) [
      | inl same ↦ (let at : i ≡ was = nat_eq-is i was same in rw (at, cell_was, swapped-first was idx, x.there) refl)
      | inr not_was ↦ rw (swapped-other was idx i (apart_from i was not_was) (apart_from i idx not_idx)) (ap is_named_in (cell_other i (apart_from i idx not_idx) (apart_from i was not_was)))
    ]
  ]

-- a buffer that changes places with itself stays
pub swapped-same : (a x : ℕ) → swapped a a x ≡ x
swapped-same a x = elim (cases_Bool (nat_eq x a)) [
  | inl e ↦ rw e (sym (nat_eq-is x a e))
  | inr e ↦ rw e refl
]

map_same : (a : ℕ) (o : Option ℕ) → option_map (swapped a a) o ≡ o
map_same a None = refl
map_same a (Some x) = ap (λ (n : ℕ). Some n) (swapped-same a x)

pub places_stay : (held : List Held) (place : Place) (idx : ℕ) → held_at held place ≡ Some idx → (q : Place) → held_at held q ≡ held_at (exchanged held place idx) q
places_stay held place idx e q = sym (held_at-exchanged held place idx idx q e ∙ map_same idx (held_at held q))

-- the tables of two buffers that change places
abbrev pub put_both : Place → ℕ → Place → ℕ → List PortTable → List PortTable
put_both place idx other was tables = map (put_in other was) (map (put_in place idx) tables)

pub ports_of-put_both : (place : Place) (idx : ℕ) (other : Place) (was : ℕ) (tables : List PortTable) → ports_of (put_both place idx other was tables) ≡ ports_of tables
ports_of-put_both place idx other was tables = ports_of-put other was (map (put_in place idx) tables) ∙ ports_of-put place idx tables

-- a buffer that changes places with itself keeps each number
pub numbers_stay : (cells : List (Option Standing)) (tables : List PortTable) (place : Place) (idx : ℕ) (t : Standing) → All IsTable tables → IsTied cells tables → number_at tables place ≡ idx
    → cell_at cells idx ≡ Some t → (q : Place) → number_at (put_both place idx t.home.place idx tables) q ≡ number_at tables q
numbers_stay cells tables place idx t all tied held there q =
    let right = tied.standing idx t there in
    let has_first = has_place-from_number tables place (omega (arith, held, right.low)) in
    let has : has_place (ports_of (map (put_in place idx) tables)) t.home.place ≡ true = rw (ports_of-put place idx tables) (has_place-from_number tables t.home.place (omega (arith, right.number, right.low))) in
    put_number t.home.place idx (map (put_in place idx) tables) (put_are_tables place idx tables all) has q
    ∙ (ap (λ (n : ℕ). if is_same_place t.home.place q then idx else n) (put_number place idx tables all has_first q) ∙ chosen)
  where
    chosen : (if is_same_place t.home.place q then idx else if is_same_place place q then idx else number_at tables q) ≡ number_at tables q
    chosen = elim (cases_Bool (is_same_place t.home.place q)) [
      | inl e ↦ rw e (sym (ap (number_at tables) (sym (same_place-is t.home.place q e)) ∙ (tied.standing idx t there).number))
      | inr e ↦ elim (cases_Bool (is_same_place place q)) [
        | inl f ↦ rw (e, f) (sym (ap (number_at tables) (sym (same_place-is place q f)) ∙ held))
        | inr f ↦ rw (e, f) refl
      ]
    ]

pub exchange_made : (cells : List (Option Standing)) (tables : List PortTable) (place : Place) (idx : ℕ) (s t : Standing) → All IsTable tables → IsTied cells tables → 0 < number_at tables place
    → cell_at cells (number_at tables place) ≡ Some s → cell_at cells idx ≡ Some t → idx ≢ number_at tables place
    → Exchange cells tables (put_both place idx t.home.place (number_at tables place) tables) place idx s t
exchange_made cells tables place idx s t all tied held here there other =
    let right = tied.standing idx t there in
    let has : has_place (ports_of (map (put_in place idx) tables)) t.home.place ≡ true = rw (ports_of-put place idx tables) (has_place-from_number tables t.home.place (omega (arith, right.number, right.low))) in
    record {
      tied = tied;
      held = held;
      here = here;
      there = there;
      other = other;
      numbers = λ q. put_number t.home.place (number_at tables place) (map (put_in place idx) tables) (put_are_tables place idx tables all) has q
          ∙ ap (λ (n : ℕ). if is_same_place t.home.place q then number_at tables place else n) (put_number place idx tables all (has_place-from_number tables place held) q);
    }

-- what an exchange makes of cells and tables
pub record Done (cells : List (Option Standing)) (tables new : List PortTable) (after : List (Option Standing)) (place : Place) (idx : ℕ) : Type 0 where
  pub count : length after ≡ length cells
  pub all : All IsTable new
  pub ports : ports_of new ≡ ports_of tables
  pub tied : IsTied after new
  pub places : (q : Place) → held_at (places_in after) q ≡ held_at (exchanged (places_in cells) place idx) q
  pub bufs : (i : ℕ) → buf_in (cell_at after i) ≡ buf_in (cell_at cells i)
  pub buffers : map buf_in after ≡ map buf_in cells
  pub named : (i : ℕ) → is_named_in (cell_at after i) ≡ is_named_in (cell_at cells (swapped (number_at tables place) idx i))

-- by the steps of the call: `two` is what stands at the index once the home at the other one is written
pub done : (cells : List (Option Standing)) (tables new : List PortTable) (place : Place) (idx was : ℕ) (s t two : Standing) (first second : Home) → All IsTable tables → IsTied cells tables → was ≡ number_at tables place
    → cell_at cells was ≡ Some s → cell_at cells idx ≡ Some t → first ≡ t.home → second ≡ s.home → cell_at (slice_set cells was (Some (record { home = first; buf = s.buf }))) idx ≡ Some two → (was ≡ idx → ⊥)
    → new ≡ map (put_in t.home.place was) (map (put_in place idx) tables)
    → Done cells tables new (slice_set (slice_set cells was (Some (record { home = first; buf = s.buf }))) idx (Some (record { home = second; buf = two.buf }))) place idx
done cells tables new place idx was s t two first second all tied number s_there t_there to_there to_here read differs are =
    let other : idx ≢ was = (λ e. differs (sym e)) in
    let low = (tied.standing was s s_there).low in
    let some : 0 < number_at tables place = omega (arith, number, low) in
    let between : Standing = record { home = first; buf = s.buf } in
    let still : cell_at (slice_set cells was (Some between)) idx ≡ Some t = get_or-set_other cells was idx (Some between) None other ∙ t_there in
    let is_t : two ≡ t = same_Some two t (sym read ∙ still) in
    let made = exchange_made cells tables place idx s t all tied some (ap (cell_at cells) (sym number) ∙ s_there) t_there (λ e. other (e ∙ sym number)) in
    let both = put_both place idx t.home.place (number_at tables place) tables in
    let same : new ≡ both = are ∙ ap (λ (n : ℕ). map (put_in t.home.place n) (map (put_in place idx) tables)) number in
    let after = moved cells tables both place idx s t made in
    let cells_are : slice_set (slice_set cells was (Some (record { home = first; buf = s.buf }))) idx (Some (record { home = second; buf = two.buf })) ≡ after =
    ap (λ (h : Home). slice_set (slice_set cells was (Some (record { home = h; buf = s.buf }))) idx (Some (record { home = second; buf = two.buf }))) to_there
    ∙ (ap (λ (h : Home). slice_set (slice_set cells was (Some (record { home = t.home; buf = s.buf }))) idx (Some (record { home = h; buf = two.buf }))) to_here
    ∙ (ap (λ (u : Standing). slice_set (slice_set cells was (Some (record { home = t.home; buf = s.buf }))) idx (Some (record { home = s.home; buf = u.buf }))) is_t
    ∙ ap (λ (n : ℕ). slice_set (slice_set cells n (Some (record { home = t.home; buf = s.buf }))) idx (Some (record { home = s.home; buf = t.buf }))) number)) in
    let tables_are : All IsTable both = put_are_tables t.home.place (number_at tables place) (map (put_in place idx) tables) (put_are_tables place idx tables all) in
    let result : Done cells tables both after place idx = record {
      count = count_moved cells tables both place idx s t made;
      all = tables_are;
      ports = ports_of-put_both place idx t.home.place (number_at tables place) tables;
      tied = tied_moved cells tables both place idx s t made;
      places = places_moved cells tables both place idx s t made;
      bufs = bufs_moved cells tables both place idx s t made;
      buffers = all_moved cells tables both place idx s t made;
      named = named_moved cells tables both place idx s t made;
    } in
    subst (λ (cs : List (Option Standing)). Done cells tables new cs place idx) (sym cells_are) (subst (λ (ts : List PortTable). Done cells tables ts after place idx) (sym same) result)
