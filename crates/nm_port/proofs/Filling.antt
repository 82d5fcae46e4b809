-- Buffers that come into the empty places of a row, one after another.
use Rattle.std.proofs.Common.{ℕ, ◌≡◌, ◌≢◌, ◌<◌, ◌+◌, ◌-◌, Bool, true, false, nat_eq, nat_lt, if◌then◌else◌, List, [], ◌∷◌, ◌++◌, length, map, set, drop, replicate, Option, Some, None, inl, inr, refl, sym, ◌∙◌, ap, arith, subst, append_assoc, length-append}
use Rattle.std.specs.List.{AllByRecursion, IsDistinct}
use Rattle.std.proofs.lemmas.Bool.{cases_Bool, or_parts}
use Rattle.std.proofs.lemmas.Bool.Decides.{nat_tests}
use Rattle.std.proofs.lemmas.List.{length-set, length-drop, length-replicate, get_or-set_same, get_or-set_other, map-append}
use Rattle.std.proofs.lemmas.Option.{same_Some}
use Rattle.nm_types.specs.declared.id.PortId.{PortId}
use Rattle.nm_types.specs.declared.place.Place.{Place}
use Rattle.nm_types.specs.declared.place.Place.TheVariants.{Tx, Extra}
use Rattle.nm_types.specs.Places.{is_same_place}
use Rattle.nm_types.specs.Buffers.{IsBufferIndex}
use Rattle.nm_types.specs.Chain.{chain_head}
use Rattle.nm_types.specs.SyncChecks.{contains_index}
use Rattle.nm_types.proofs.Tests.{false_true}
use Rattle.nm_region.specs.Buffers.{Buffer, indices_of}
use Rattle.nm_hold.specs.declared.standing.Standing.{Standing}
use Rattle.nm_hold.specs.Holds.{HoldState, buffers_of, index_at, standing_at, with_cell, IsHold}
use Rattle.nm_hold.proofs.Spots.{nat_eq-is, same_place-is, same_place-refl}
use Rattle.nm_port.specs.declared.fill.Row.{Row}
use Rattle.nm_port.specs.declared.fill.Row.TheVariants.{Slots, Extras}
use Rattle.nm_port.specs.Own.{bytes_in_cell, AreWhole}
use Rattle.nm_port.specs.Regions.{IsBufferOf, AreOf}
use Rattle.nm_port.specs.Filling.{place_in, first_bytes, placed, index_with, named_with, FlaggedBy, AreFilledWith, ArePartlyIn, IsAway}
use Rattle.nm_port.proofs.Regions.{holds_added}
use Rattle.nm_port.proofs.Seeing.{map-set}

some_none : {X : Type 0} (x : X) → Some x ≡ None → ⊥
some_none x e = cc

pub within_pool : (h : HoldState) (idx : ℕ) → IsHold h → IsBufferIndex (buffers_of h) idx → idx < length h.cells
within_pool h idx is index = let pool = is.pool in omega (arith, pool.0, index.1)

-- places of a row are told apart by their positions
row_same : (port : PortId) (row : Row) (a b : ℕ) → is_same_place (place_in port row a) (place_in port row b) ≡ true → a ≡ b
row_same port Slots a b e = let same = same_place-is (Tx port a) (Tx port b) e in cc
row_same port Extras a b e = let same = same_place-is (Extra port a) (Extra port b) e in cc

pub row_apart : (port : PortId) (row : Row) (a b : ℕ) → a ≢ b → is_same_place (place_in port row a) (place_in port row b) ≡ false
row_apart port row a b other = elim (cases_Bool (is_same_place (place_in port row a) (place_in port row b))) [
  | inl e ↦ absurd (other (row_same port row a b e))
  | inr e ↦ e
]

-- a place before the row's is as it was
index_before : (port : PortId) (row : Row) (start at : ℕ) (idxs : List ℕ) (o : Option ℕ) → at < start → index_with port row start idxs (place_in port row at) o ≡ o
index_before port row start at [] o below = refl
index_before port row start at (idx ∷ idxs) o below = rw (row_apart port row start at (λ e. absurd (omega arith))) (index_before port row (start + 1) at idxs o (omega arith))

all_at : {X : Type 0} (P : X → Type 0) (xs ys : List X) (x : X) → AllByRecursion P (xs ++ x ∷ ys) → P x
all_at P [] ys x all = all.0
all_at P (z ∷ zs) ys x all = all_at P zs ys x all.1

distinct_at : (xs ys : List ℕ) (x : ℕ) → IsDistinct nat_eq (xs ++ x ∷ ys) → AllByRecursion (λ y. nat_eq x y ≡ false) ys
unfolding IsDistinct
distinct_at [] ys x once = once.0
distinct_at (z ∷ zs) ys x once = distinct_at zs ys x once.1

none_contains : (x : ℕ) (ys : List ℕ) → AllByRecursion (λ y. nat_eq x y ≡ false) ys → contains_index ys x ≡ false
none_contains x [] all = refl
none_contains x (y ∷ ys) all = let other : nat_eq y x ≡ false = turned x y all.0 in rw other (none_contains x ys all.1)
  where
    turned : (a b : ℕ) → nat_eq a b ≡ false → nat_eq b a ≡ false
    turned a b e = grind (arith, nat_tests)

indices_at : (rest done : List Buffer) (x : Buffer) → indices_of (rest ++ x ∷ done) ≡ indices_of rest ++ x.index ∷ indices_of done
indices_at rest done x = map-append (λ (b : Buffer). b.index) rest (x ∷ done)

-- what the next buffer of a row finds
pub record FindsRoom (now : HoldState) (place : Place) (idx : ℕ) : Type 0 where
  pub empty : index_at now place ≡ None
  pub index : IsBufferIndex (buffers_of now) idx
  pub apart : standing_at now idx ≡ None

pub finds_room : (h now : HoldState) (port : PortId) (row : Row) (named : ℕ) (all rest done : List Buffer) (x : Buffer) → rest ++ x ∷ done ≡ all → AreFilledWith h now port row named (length rest + 1) (indices_of done)
    → ((at : ℕ) → index_at h (place_in port row at) ≡ None) → AllByRecursion (IsAway h) (indices_of all) → IsDistinct nat_eq (indices_of all) → FindsRoom now (place_in port row (length rest)) x.index
finds_room h now port row named all rest done x whole filled empty away once =
    let list : indices_of all ≡ indices_of rest ++ x.index ∷ indices_of done = ap indices_of (sym whole) ∙ indices_at rest done x in
    let here = all_at (IsAway h) (indices_of rest) (indices_of done) x.index (rw list at away) in
    let apart = none_contains x.index (indices_of done) (distinct_at (indices_of rest) (indices_of done) x.index (rw list at once)) in
    record {
      empty = filled.index (place_in port row (length rest)) ∙ (index_before port row (length rest + 1) (length rest) (indices_of done) (index_at h (place_in port row (length rest))) (omega arith) ∙ empty (length rest));
      index = rw filled.count here.0;
      apart = filled.others x.index apart ∙ here.1;
    }

-- a buffer that comes has all its bytes
zeros_length : (n v : ℕ) → length (replicate n v) ≡ n
zeros_length n v = length-replicate n v

dropped_length : (n k v : ℕ) → length (drop k (replicate n v)) ≡ n - k
dropped_length n k v = length-drop k (replicate n v) ∙ ap (λ (m : ℕ). m - k) (zeros_length n v)

first_whole : (row : Row) (next : ℕ) → length (first_bytes row next) ≡ 2048
first_whole Slots next = zeros_length 2048 0
first_whole Extras next =
    let zeros = dropped_length 2048 4 0 in
    omega (arith, zeros)

-- one buffer more stands in the row
pub fill_next : (h now new : HoldState) (port : PortId) (row : Row) (named at : ℕ) (done : List ℕ) (x : Buffer) → AreFilledWith h now port row named (at + 1) done
    → FindsRoom now (place_in port row at) x.index → x.bytes ≡ first_bytes row (chain_head done)
    → new ≡ with_cell now x.index (Some (placed (place_in port row at) (nat_lt at named) x))
    → ((q : Place) → index_at new q ≡ (if is_same_place (place_in port row at) q then Some x.index else index_at now q)) → IsHold new
    → AreFilledWith h new port row named at (x.index ∷ done)
fill_next h now new port row named at done x filled room bytes cell places is = record {
  index = λ q. places q ∙ ap (λ (o : Option ℕ). if is_same_place (place_in port row at) q then Some x.index else o) (filled.index q);
  others = λ i other. (let both = or_parts (nat_eq x.index i) (contains_index done i) other in
      ap (λ (s : HoldState). standing_at s i) cell ∙ (get_or-set_other now.cells x.index i (Some here) None (λ e. false_true (sym both.0 ∙ same_true x.index i (sym e))) ∙ filled.others i both.1));
  bytes = ap (λ (s : HoldState). map bytes_in_cell s.cells) cell ∙ (map-set bytes_in_cell now.cells x.index (Some here) ∙ (ap (λ (b : List ℕ). set (map bytes_in_cell now.cells) x.index b) bytes
      ∙ ap (λ (all : List (List ℕ)). set all x.index (first_bytes row (chain_head done))) filled.bytes));
  flags = λ was flagged idx s there. by_index was flagged idx s there (nat_eq x.index idx) refl;
  whole = λ all idx s there. whole_at all idx s there (nat_eq x.index idx) refl;
  ports = ap (λ (s : HoldState). s.ports) cell ∙ filled.ports;
  count = ap buffers_of cell ∙ (ap (λ (n : ℕ). n - 2) (length-set now.cells x.index (Some here)) ∙ filled.count);
  is_hold = is;
}
  where
    here : Standing
    here = placed (place_in port row at) (nat_lt at named) x

    same_true : (a b : ℕ) → a ≡ b → nat_eq a b ≡ true
    same_true a b e = grind (arith, nat_tests)

    stands_here : (idx : ℕ) (s : Standing) → standing_at new idx ≡ Some s → nat_eq x.index idx ≡ true → here ≡ s
    stands_here idx s there e =
        let same : x.index ≡ idx = nat_eq-is x.index idx e in
        let within = within_pool now x.index filled.is_hold room.index in
        let stands : standing_at new idx ≡ Some here = ap (standing_at new) (sym same) ∙ (ap (λ (n : HoldState). standing_at n x.index) cell ∙ get_or-set_same now.cells x.index (Some here) None within) in
        same_Some here s (sym stands ∙ there)

    stood_there : (idx : ℕ) (s : Standing) → standing_at new idx ≡ Some s → nat_eq x.index idx ≡ false → standing_at now idx ≡ Some s
    stood_there idx s there e =
        let other : idx ≢ x.index = (λ same. false_true (sym e ∙ same_true x.index idx (sym same))) in
        sym (ap (λ (n : HoldState). standing_at n idx) cell ∙ get_or-set_other now.cells x.index idx (Some here) None other) ∙ there

    whole_at : AreWhole h → (idx : ℕ) (s : Standing) → standing_at new idx ≡ Some s → (b : Bool) → nat_eq x.index idx ≡ b → length s.buf.bytes ≡ 2048
    whole_at all idx s there true e = rw (← (stands_here idx s there e), bytes) (first_whole row (chain_head done))
    whole_at all idx s there false e = filled.whole all idx s (stood_there idx s there e)

    by_index : (was : Place → Bool) → FlaggedBy h was → (idx : ℕ) (s : Standing) → standing_at new idx ≡ Some s → (b : Bool) → nat_eq x.index idx ≡ b
        → s.home.named ≡ named_with port row named at (x.index ∷ done) was s.home.place
    by_index was flagged idx s there true e =
        rw (← (stands_here idx s there e), same_place-refl (place_in port row at)) refl
    by_index was flagged idx s there false e =
        let stood = stood_there idx s there e in
        let apart : is_same_place (place_in port row at) s.home.place ≡ false = elim (cases_Bool (is_same_place (place_in port row at) s.home.place)) [
          | inl same ↦ absurd (some_none idx (sym ((filled.is_hold.standing idx s stood).there) ∙ (ap (index_at now) (sym (same_place-is (place_in port row at) s.home.place same)) ∙ room.empty)))
          | inr differs ↦ differs
        ] in
        filled.flags was flagged idx s stood ∙ rw apart refl

pub none_filled : (h : HoldState) (port : PortId) (row : Row) (named at : ℕ) → IsHold h → AreFilledWith h h port row named at []
none_filled h port row named at is = record { index = λ q. refl; others = λ i other. refl; bytes = refl; flags = λ was flagged. flagged; whole = λ all. all; ports = refl; count = refl; is_hold = is }

-- the next buffer, the last of those left, and what stands in the row once it came
module _ (h now : HoldState) (port : PortId) (row : Row) (named : ℕ) (all bufs rest : List Buffer) (x : Buffer) (next : ℕ) (partly : ArePartlyIn h now port row named all bufs next) (last : bufs ≡ rest ++ x ∷ []) where
  whole : rest ++ x ∷ partly.done ≡ all
  whole = sym (append_assoc rest (x ∷ []) partly.done) ∙ (ap (λ (b : List Buffer). b ++ partly.done) (sym last) ∙ partly.whole)

  filled_so_far : AreFilledWith h now port row named (length rest + 1) (indices_of partly.done)
  filled_so_far =
      let count : length bufs ≡ length rest + 1 = ap (λ (b : List Buffer). length b) last ∙ length-append rest (x ∷ []) in
      subst (λ (n : ℕ). AreFilledWith h now port row named n (indices_of partly.done)) count partly.filled

  pub partly_room : ((at : ℕ) → index_at h (place_in port row at) ≡ None) → AllByRecursion (IsAway h) (indices_of all) → IsDistinct nat_eq (indices_of all)
      → FindsRoom now (place_in port row (length rest)) x.index
  partly_room empty away once = finds_room h now port row named all rest partly.done x whole filled_so_far empty away once

  pub partly_next : (new : HoldState) (y : Buffer) (after : ℕ) → FindsRoom now (place_in port row (length rest)) x.index → y.index ≡ x.index → y.bytes ≡ first_bytes row next → after ≡ y.index
      → new ≡ with_cell now y.index (Some (placed (place_in port row (length rest)) (nat_lt (length rest) named) y))
      → ((q : Place) → index_at new q ≡ (if is_same_place (place_in port row (length rest)) q then Some y.index else index_at now q)) → IsHold new → y.region ≡ x.region
      → ArePartlyIn h new port row named all rest after
  partly_next new y after room index bytes after_is cell places is same_region = record {
    done = x ∷ partly.done;
    whole = whole;
    filled = (let room_y = subst (λ (i : ℕ). FindsRoom now (place_in port row (length rest)) i) (sym index) room in
        let filled = fill_next h now new port row named (length rest) (indices_of partly.done) y filled_so_far room_y (bytes ∙ ap (first_bytes row) partly.next_is) cell places is in
        subst (λ (i : ℕ). AreFilledWith h new port row named (length rest) (i ∷ indices_of partly.done)) index filled);
    next_is = after_is ∙ index;
    region = λ region are all_of. holds_added region now new y.index (placed (place_in port row (length rest)) (nat_lt (length rest) named) y) cell (same_region ∙ all_at (IsBufferOf region) rest partly.done x (subst (AreOf region) (sym whole) are)) (partly.region region are all_of);
  }
