-- Buffers in several slots that become named ones or are no longer, by their numbers and by their places.
use Rattle.std.proofs.Common.{ℕ, zero, suc, ◌≡◌, ◌≢◌, ◌<◌, ◌+◌, ◌||◌, Bool, true, false, if◌then◌else◌, List, [], ◌∷◌, ◌++◌, map, fold, Option, Some, None, inl, inr, refl, sym, ◌∙◌, ap, arith}
use Rattle.std.specs.Prelude.{IsSome, slice_index_or}
use Rattle.std.specs.Option.{option_map_or}
use Rattle.std.specs.List.{list_any}
use Rattle.std.proofs.lemmas.Bool.{cases_Bool}
use Rattle.std.proofs.lemmas.List.{map-append}
use Rattle.std.proofs.lemmas.List.Folds.{list_any-append}
use Rattle.std.proofs.lemmas.List.Sums.{fold-append}
use Rattle.std.proofs.lemmas.List.FromFn.{map-range_with_len_more}
use Rattle.nm_types.specs.declared.id.PortId.{PortId}
use Rattle.nm_types.specs.declared.place.Place.{Place}
use Rattle.nm_types.specs.declared.place.Place.TheVariants.{Tx}
use Rattle.nm_types.specs.Places.{is_same_place}
use Rattle.nm_types.specs.Positions.{step_on, slots_from}
use Rattle.nm_types.proofs.RingSteps.{step_on-below}
use Rattle.nm_hold.specs.declared.standing.Standing.{Standing}
use Rattle.nm_hold.specs.declared.table.PortTable.{PortTable}
use Rattle.nm_hold.specs.Standings.{cell_named}
use Rattle.nm_hold.specs.Tables.{number_at}
use Rattle.nm_hold.specs.Holds.{cell_at, stands_at}
use Rattle.nm_hold.specs.Ties.{StandsRightly, IsTied}
use Rattle.nm_hold.specs.Renames.{cell_named_in, tx_slots, cells_named, cells_renamed}
use Rattle.nm_hold.proofs.Spots.{same_place-is, same_place-refl}
use Rattle.nm_hold.proofs.Tied.{standing_by_number}

-- one slot more
pub slots_more : {X : Type 0} (f : ℕ → X) (size first k : ℕ) → map f (slots_from size first (k + 1)) ≡ map f (slots_from size first k) ++ f (step_on size first k) ∷ []
slots_more f size first k = ap (map f) (map-range_with_len_more (step_on size first) 0 k k (omega arith)) ∙ map-append f (slots_from size first k) (step_on size first k ∷ [])

pub renamed_more : (named : Bool) (numbers : List ℕ) (size first k : ℕ) (cells : List (Option Standing))
    → cells_renamed named numbers (slots_from size first (k + 1)) cells ≡ cells_named named (cells_renamed named numbers (slots_from size first k) cells) (slice_index_or numbers (step_on size first k) 0)
renamed_more named numbers size first k cells =
    let number : ℕ → ℕ = (λ at. slice_index_or numbers at 0) in
    ap (fold (cells_named named) cells) (slots_more number size first k) ∙ fold-append (cells_named named) cells (map number (slots_from size first k)) (number (step_on size first k) ∷ [])

-- what stands still stands when one buffer has another name
pub still_stands : (named : Bool) (cells : List (Option Standing)) (idx i : ℕ) → IsSome (cell_at cells i) → IsSome (cell_at (cells_named named cells idx) i)
still_stands named [] idx i stood = stood
still_stands named (None ∷ cells) zero zero stood = stood
still_stands named (Some s ∷ cells) zero zero stood = refl
still_stands named (c ∷ cells) zero (suc i) stood = stood
still_stands named (c ∷ cells) (suc idx) zero stood = stood
still_stands named (c ∷ cells) (suc idx) (suc i) stood = still_stands named cells idx i stood

-- a buffer whose name is another one, if it is in one of the places
abbrev flag_if : Bool → Standing → Bool → Option Standing
flag_if named s there = Some (record s { home = record { place = s.home.place; named = if there then named else s.home.named } })

abbrev is_in : List Place → Standing → Bool
is_in places s = list_any (λ p. is_same_place p s.home.place) places

in_more : (places : List Place) (q : Place) (s : Standing) → is_in (places ++ q ∷ []) s ≡ (is_in places s || (is_same_place q s.home.place || false))
in_more places q s = list_any-append (λ p. is_same_place p s.home.place) places (q ∷ [])

or_none : (a b : Bool) → b ≡ false → (a || (b || false)) ≡ a
or_none true b e = refl
or_none false b e = rw e refl

or_true : (a b : Bool) → b ≡ true → (a || (b || false)) ≡ true
or_true true b e = refl
or_true false b e = rw e refl

-- a place more, in which no buffer of these cells stands
named_elsewhere : (named : Bool) (places : List Place) (q : Place) (c : Option Standing) → ((t : Standing) → c ≡ Some t → is_same_place q t.home.place ≡ false)
    → cell_named_in named places c ≡ cell_named_in named (places ++ q ∷ []) c
named_elsewhere named places q None apart = refl
named_elsewhere named places q (Some t) apart = ap (flag_if named t) (sym (in_more places q t ∙ or_none (is_in places t) (is_same_place q t.home.place) (apart t refl)))

all_elsewhere : (named : Bool) (places : List Place) (q : Place) (cells : List (Option Standing)) → ((i : ℕ) (t : Standing) → cell_at cells i ≡ Some t → is_same_place q t.home.place ≡ false)
    → map (cell_named_in named places) cells ≡ map (cell_named_in named (places ++ q ∷ [])) cells
all_elsewhere named places q [] apart = refl
all_elsewhere named places q (c ∷ cells) apart =
    ap (λ (x : Option Standing). x ∷ map (cell_named_in named places) cells) (named_elsewhere named places q c (apart 0))
    ∙ ap (λ (xs : List (Option Standing)). cell_named_in named (places ++ q ∷ []) c ∷ xs) (all_elsewhere named places q cells (λ i t e. apart (suc i) t e))

-- the place more is that of the buffer
named_here : (named : Bool) (places : List Place) (q : Place) (s : Standing) → is_same_place q s.home.place ≡ true
    → cell_named named (cell_named_in named places (Some s)) ≡ cell_named_in named (places ++ q ∷ []) (Some s)
named_here named places q s here = ap (flag_if named s) (sym (in_more places q s ∙ or_true (is_in places s) (is_same_place q s.home.place) here))

named_next : (named : Bool) (places : List Place) (q : Place) (cells : List (Option Standing)) (idx : ℕ) (s : Standing) → cell_at cells idx ≡ Some s → is_same_place q s.home.place ≡ true
    → ((i : ℕ) (t : Standing) → cell_at cells i ≡ Some t → i ≢ idx → is_same_place q t.home.place ≡ false)
    → cells_named named (map (cell_named_in named places) cells) idx ≡ map (cell_named_in named (places ++ q ∷ [])) cells
named_next named places q [] idx s stands here apart = cc
named_next named places q (c ∷ cells) zero s stands here apart =
    ap (λ (x : Option Standing). x ∷ map (cell_named_in named places) cells) (ap (λ (x : Option Standing). cell_named named (cell_named_in named places x)) stands ∙ (named_here named places q s here ∙ ap (cell_named_in named (places ++ q ∷ [])) (sym stands)))
    ∙ ap (λ (xs : List (Option Standing)). cell_named_in named (places ++ q ∷ []) c ∷ xs) (all_elsewhere named places q cells (λ i t e. apart (suc i) t e (λ (same : suc i ≡ 0). absurd (omega (arith, same)))))
named_next named places q (c ∷ cells) (suc idx) s stands here apart =
    ap (λ (x : Option Standing). x ∷ cells_named named (map (cell_named_in named places) cells) idx) (named_elsewhere named places q c (λ t e. apart 0 t e (λ (same : 0 ≡ suc idx). absurd (omega (arith, same)))))
    ∙ ap (λ (xs : List (Option Standing)). cell_named_in named (places ++ q ∷ []) c ∷ xs) (named_next named places q cells idx s stands here (λ i t e other. apart (suc i) t e (λ (same : suc i ≡ suc idx). other (omega (arith, same)))))

none_named : (named : Bool) (cells : List (Option Standing)) → cells ≡ map (cell_named_in named []) cells
none_named named [] = refl
none_named named (None ∷ cells) = ap (λ (xs : List (Option Standing)). None ∷ xs) (none_named named cells)
none_named named (Some s ∷ cells) = ap (λ (xs : List (Option Standing)). Some s ∷ xs) (none_named named cells)

-- the numbers in the slots of a port are those of the buffers in these places
module _ (cells : List (Option Standing)) (tables : List PortTable) (port : PortId) (numbers : List ℕ) (size first : ℕ) (named : Bool) (tied : IsTied cells tables)
    (numbered : (at : ℕ) → number_at tables (Tx port at) ≡ slice_index_or numbers at 0) (held : (at : ℕ) → at < size → 0 < number_at tables (Tx port at)) where
  pub renamed_are : (n : ℕ) → first < size → cells_renamed named numbers (slots_from size first n) cells ≡ map (cell_named_in named (tx_slots port size first n)) cells
  renamed_are zero within = none_named named cells
  renamed_are (suc n) within =
      let next : suc n ≡ n + 1 = omega arith in
      let at = step_on size first n in
      let q = Tx port at in
      let idx = number_at tables q in
      let found = standing_by_number cells tables q tied (held at (step_on-below size first n within)) in
      let here : is_same_place q found.0.home.place ≡ true = ap (λ (p : Place). is_same_place q p) found.2 ∙ same_place-refl q in
      let apart : (i : ℕ) (t : Standing) → cell_at cells i ≡ Some t → i ≢ idx → is_same_place q t.home.place ≡ false = (λ i t e other. elim (cases_Bool (is_same_place q t.home.place)) [
        | inl same ↦ absurd (other (sym (tied.standing i t e).number ∙ ap (number_at tables) (sym (same_place-is q t.home.place same))))
        | inr differs ↦ differs
      ]) in
      ap (λ (m : ℕ). cells_renamed named numbers (slots_from size first m) cells) next
      ∙ (renamed_more named numbers size first n cells
      ∙ (ap (λ (xs : List (Option Standing)). cells_named named xs (slice_index_or numbers at 0)) (renamed_are n within)
      ∙ (ap (cells_named named (map (cell_named_in named (tx_slots port size first n)) cells)) (sym (numbered at))
      ∙ (named_next named (tx_slots port size first n) q cells idx found.0 found.1 here apart
      ∙ (ap (λ (ps : List Place). map (cell_named_in named ps) cells) (sym (slots_more (Tx port) size first n))
      ∙ ap (λ (m : ℕ). map (cell_named_in named (tx_slots port size first m)) cells) (sym next))))))

-- the cells still tell the same as the tables
pub named_at : (named : Bool) (places : List Place) (cells : List (Option Standing)) (i : ℕ) → cell_at (map (cell_named_in named places) cells) i ≡ cell_named_in named places (cell_at cells i)
named_at named places [] i = refl
named_at named places (c ∷ cells) zero = refl
named_at named places (c ∷ cells) (suc i) = named_at named places cells i

pub named_tied : (cells : List (Option Standing)) (tables : List PortTable) (named : Bool) (places : List Place) → IsTied cells tables → IsTied (map (cell_named_in named places) cells) tables
named_tied cells tables named places tied = record {
  standing = λ i s e. by_cell i s (cell_at cells i) refl (sym (named_at named places cells i) ∙ e);
  numbered = λ q some. rw (named_at named places cells (number_at tables q)) (same_place (cell_at cells (number_at tables q)) q ∙ tied.numbered q some);
}
  where
    same_place : (c : Option Standing) (q : Place) → stands_at q (cell_named_in named places c) ≡ stands_at q c
    same_place None q = refl
    same_place (Some s) q = refl

    by_cell : (i : ℕ) (s : Standing) (c : Option Standing) → cell_at cells i ≡ c → cell_named_in named places c ≡ Some s → StandsRightly tables i s
    by_cell i s None e f = cc
    by_cell i s (Some t) e f =
        let right = tied.standing i t e in
        let place : t.home.place ≡ s.home.place = ap (λ (o : Option Standing). option_map_or (λ (x : Standing). x.home.place) o t.home.place) f in
        let buf : t.buf.index ≡ s.buf.index = ap (λ (o : Option Standing). option_map_or (λ (x : Standing). x.buf.index) o 0) f in
        record { low = right.low; index = sym buf ∙ right.index; number = ap (number_at tables) (sym place) ∙ right.number }
