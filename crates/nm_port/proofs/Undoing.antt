-- Exchanges undone, and buffers put back where they stood: the hold is as it was before.
use Rattle.std.proofs.Common.{nat_le, ℕ, zero, suc, ◌≡◌, ◌<◌, Bool, true, false, nat_lt, if◌then◌else◌, List, [], ◌∷◌, ◌++◌, length, map, reverse, set, Option, Some, None, option_map, refl, sym, ◌∙◌, ap, arith, rules}
use Rattle.std.specs.Prelude.{IsSome}
use Rattle.std.proofs.lemmas.Bool.Decides.{nat_tests}
use Rattle.std.proofs.lemmas.List.{length-set, reverse-append, length-reverse}
use Rattle.std.proofs.lemmas.Option.{same_Some}
use Rattle.nm_types.specs.Buffers.{IsBufferIndex}
use Rattle.nm_types.specs.declared.id.PortId.{PortId}
use Rattle.nm_types.specs.declared.place.Place.{Place}
use Rattle.nm_types.specs.declared.id.Side.{Side}
use Rattle.nm_types.specs.Places.{is_same_place}
use Rattle.nm_types.specs.Positions.{step_on, slots_from}
use Rattle.nm_types.proofs.RingSteps.{dist-step_on, step_on-below}
use Rattle.nm_types.specs.Exchange.{exchanged, swapped}
use Rattle.nm_types.proofs.Exchanges.{held_at-exchanged, swapped-first}
use Rattle.nm_region.specs.Buffers.{Buffer}
use Rattle.nm_hold.specs.declared.standing.Standing.{Standing}
use Rattle.nm_hold.specs.Standings.{buf_in}
use Rattle.nm_hold.specs.Offsets.{has_place}
use Rattle.nm_hold.specs.Holds.{HoldState, places_of, buffers_of, bufs_of, buffer_at, index_at, standing_at, stands_at, cell_at, is_named_at, is_named_in, with_cell, IsHold, SamePlaces}
use Rattle.nm_hold.proofs.Spots.{same_place-is}
use Rattle.nm_hold.proofs.Tied.{within_cells}
use Rattle.nm_port.specs.RingSlots.{RingSlots}
use Rattle.nm_port.specs.Sides.{name_at, place_on}
use Rattle.nm_port.specs.Filling.{placed}
use Rattle.nm_port.specs.Exchanges.{user_position, user_place, is_among}
use Rattle.nm_port.specs.Closing.{AreTaken}
use Rattle.nm_port.specs.Lending.{AreChanged, AreSwapped, IsOut, Run, place_of_run, AreOut, AreNamedAs}
use Rattle.nm_port.proofs.Buffers.{buf_by_index}
use Rattle.nm_port.proofs.Ranges.{is_slot_from, among_slots}

-- the last of a list is the first of the list turned round
pub last_first : {X : Type 0} (xs : List X) (x : X) → reverse (xs ++ x ∷ []) ≡ x ∷ reverse xs
last_first xs x = reverse-append xs (x ∷ [])

-- a hold is known by its buffers, and by what stands in each place and is a named one
cells_same : (xs ys : List (Option Standing)) → map buf_in xs ≡ map buf_in ys → ((i : ℕ) → cell_at xs i ≡ cell_at ys i) → xs ≡ ys
cells_same [] [] bufs each = refl
cells_same [] (y ∷ ys) bufs each = absurd cc
cells_same (x ∷ xs) [] bufs each = absurd cc
cells_same (x ∷ xs) (y ∷ ys) bufs each =
    let rest : map buf_in xs ≡ map buf_in ys = cc in
    ap (λ (c : Option Standing). c ∷ xs) (each 0) ∙ ap (λ (cs : List (Option Standing)). y ∷ cs) (cells_same xs ys rest (λ i. each (suc i)))

module _ (a b : HoldState) (is_a : IsHold a) (is_b : IsHold b) (bufs : bufs_of a ≡ bufs_of b) (index : (q : Place) → index_at a q ≡ index_at b q) (named : (i : ℕ) → is_named_at a i ≡ is_named_at b i) where
  cell_same : (i : ℕ) → standing_at a i ≡ standing_at b i
  cell_same i = by_cells (standing_at a i) (standing_at b i) refl refl
    where
      one : buf_in (standing_at a i) ≡ buf_in (standing_at b i)
      one = buf_by_index a.cells b.cells i bufs

      by_cells : (o p : Option Standing) → standing_at a i ≡ o → standing_at b i ≡ p → o ≡ p
      by_cells None None e f = refl
      by_cells None (Some t) e f = absurd (let none = sym (ap buf_in e) ∙ (one ∙ ap buf_in f) in cc)
      by_cells (Some s) None e f = absurd (let none = sym (ap buf_in e) ∙ (one ∙ ap buf_in f) in cc)
      by_cells (Some s) (Some t) e f =
          let buf : s.buf ≡ t.buf = same_Some s.buf t.buf (sym (ap buf_in e) ∙ (one ∙ ap buf_in f)) in
          let name : s.home.named ≡ t.home.named = sym (ap is_named_in e) ∙ (named i ∙ ap is_named_in f) in
          let there : index_at b s.home.place ≡ Some i = sym (index s.home.place) ∙ (is_a.standing i s e).there in
          let place : s.home.place ≡ t.home.place = same_place-is s.home.place t.home.place (sym (ap (stands_at s.home.place) f) ∙ is_b.held s.home.place i there) in
          ap (λ (p : Place). Some (placed p s.home.named s.buf)) place ∙ (ap (λ (n : Bool). Some (placed t.home.place n s.buf)) name ∙ ap (λ (x : Buffer). Some (placed t.home.place t.home.named x)) buf)

  pub same_hold : a.ports ≡ b.ports → a ≡ b
  same_hold ports = rw (cells_same a.cells b.cells bufs cell_same, ports) refl

-- two buffers change places, and change them again
swapped_twice : (a b i : ℕ) → swapped b a (swapped a b i) ≡ i
swapped_twice a b i = grind (arith, nat_tests)

swapped_again : (a b i : ℕ) → swapped a b (swapped b a i) ≡ i
swapped_again a b i = grind (arith, nat_tests)

module _ (mid now : HoldState) (place : Place) (idx was : ℕ) (done : AreChanged mid now place idx was) where
  index_now : (q : Place) → index_at now q ≡ option_map (swapped was idx) (index_at mid q)
  index_now q = done.places q ∙ held_at-exchanged (places_of mid) place idx was q done.stood

  now_there : index_at now place ≡ Some idx
  now_there = index_now place ∙ (ap (option_map (swapped was idx)) done.stood ∙ ap (λ (n : ℕ). Some n) (swapped-first was idx))

  pub held_back : IsSome (index_at now place)
  held_back = rw now_there (search rules)

  pub named_back : is_named_at now was ≡ true
  named_back = done.names was ∙ (ap (is_named_at mid) (swapped-first was idx) ∙ done.names_named)

  module _ (new : HoldState) (places : SamePlaces (exchanged (places_of now) place was) (places_of new)) (bufs : bufs_of new ≡ bufs_of now)
      (named : (w i : ℕ) → index_at now place ≡ Some w → is_named_at new i ≡ is_named_at now (swapped w was i)) (ports : new.ports ≡ now.ports) (is_new : IsHold new) where
    index_new : (q : Place) → index_at new q ≡ index_at mid q
    index_new q = places q ∙ (held_at-exchanged (places_of now) place was idx q now_there ∙ (ap (option_map (swapped idx was)) (index_now q) ∙ twice (index_at mid q)))
      where
        twice : (o : Option ℕ) → option_map (swapped idx was) (option_map (swapped was idx) o) ≡ o
        twice None = refl
        twice (Some i) = ap (λ (n : ℕ). Some n) (swapped_twice was idx i)

    named_new : (i : ℕ) → is_named_at new i ≡ is_named_at mid i
    named_new i = named idx i now_there ∙ (done.names (swapped idx was i) ∙ ap (is_named_at mid) (swapped_again was idx i))

    pub changed_back : new ≡ mid
    changed_back = same_hold new mid is_new done.is_hold (bufs ∙ done.bufs) index_new named_new (ports ∙ done.ports)

-- the last exchange of several
pub last_change : (h : HoldState) (id : PortId) (r : RingSlots) (was left : List ℕ) (w : ℕ) (now : HoldState) → was ≡ left ++ w ∷ [] → AreSwapped h id r (reverse was) now
    → (mid : HoldState) × (AreChanged mid now (user_place id r (length left)) (name_at r (user_position r (length left))) w × AreSwapped h id r (reverse left) mid)
last_change h id r was left w now last swapped =
    let x = rw (last, last_first left w, length-reverse left) at swapped in
    x

pub one_more_change : (h now new : HoldState) (id : PortId) (r : RingSlots) (was : List ℕ) (k w : ℕ) → length was ≡ k → AreSwapped h id r (reverse was) now
    → AreChanged now new (user_place id r k) (name_at r (user_position r k)) w → AreSwapped h id r (reverse (was ++ w ∷ [])) new
one_more_change h now new id r was k w count swapped change = rw (last_first was w, length-reverse was, count) ((now, (change, swapped)))

-- a cell that is emptied, and filled again
refill : (cells : List (Option Standing)) (i : ℕ) (s : Standing) → cell_at cells i ≡ Some s → set (set cells i None) i (Some s) ≡ cells
refill [] i s e = refl
refill (c ∷ cells) zero s e = ap (λ (o : Option Standing). o ∷ cells) (sym e)
refill (c ∷ cells) (suc i) s e = ap (λ (cs : List (Option Standing)). c ∷ cs) (refill cells i s e)

none_there : (cells : List (Option Standing)) (i : ℕ) → cell_at (set cells i None) i ≡ None
none_there [] i = refl
none_there (c ∷ cells) zero = refl
none_there (c ∷ cells) (suc i) = none_there cells i

module _ (mid now : HoldState) (place : Place) (named : Bool) (buf : Buffer) (out : IsOut mid now place named buf) where
  pub belongs_back : has_place now.ports place ≡ true
  belongs_back = ap (λ (y : HoldState). has_place y.ports place) out.cell ∙ (out.was_hold.standing buf.index (placed place named buf) out.stood).belongs

  pub index_back : IsBufferIndex (buffers_of now) buf.index
  index_back =
      let low = (out.was_hold.standing buf.index (placed place named buf) out.stood).low in
      let within = within_cells mid.cells buf.index (placed place named buf) out.stood in
      let count : length now.cells ≡ length mid.cells = ap (λ (y : HoldState). length y.cells) out.cell ∙ length-set mid.cells buf.index None in
      search rules

  pub apart_back : standing_at now buf.index ≡ None
  apart_back = ap (λ (y : HoldState). standing_at y buf.index) out.cell ∙ none_there mid.cells buf.index

  pub put_back : (new : HoldState) → new ≡ with_cell now buf.index (Some (placed place named buf)) → new ≡ mid
  put_back new cell =
      cell ∙ (ap (λ (y : HoldState). with_cell y buf.index (Some (placed place named buf))) out.cell
      ∙ ap (λ (cells : List (Option Standing)). record mid { cells = cells }) (refill mid.cells buf.index (placed place named buf) out.stood))

-- the last buffer of several
pub last_out : (h : HoldState) (run : Run) (unnamed : ℕ) (bufs left : List Buffer) (buf : Buffer) (now : HoldState) → bufs ≡ left ++ buf ∷ [] → AreOut h run unnamed (reverse bufs) now
    → (mid : HoldState) × (IsOut mid now (place_of_run run (length left)) (nat_le unnamed (length left)) buf × AreOut h run unnamed (reverse left) mid)
last_out h run unnamed bufs left buf now last out =
    let x = rw (last, last_first left buf, length-reverse left) at out in
    x

-- a place of a run that comes behind the first ones
pub run_not_yet : (s : Side) (id : PortId) (size first k : ℕ) → first < size → k < size → is_among (map (place_on s id) (slots_from size first k)) (place_on s id (step_on size first k)) ≡ false
run_not_yet s id size first k within below =
    let inside = step_on-below size first k within in
    among_slots s id (slots_from size first k) (step_on size first k)
    ∙ (is_slot_from size first k (step_on size first k) within (omega arith) inside
    ∙ (ap (λ (d : ℕ). nat_lt d k) (dist-step_on size first k within below) ∙ not_below k))
  where
    not_below : (n : ℕ) → nat_lt n n ≡ false
    not_below n = grind (arith, nat_tests)

-- one buffer more is taken out
module _ (h now : HoldState) (places : List Place) (before after : List Buffer) (taken : AreTaken h now places before after) (q : Place) (fresh : is_among places q ≡ false) where
  stays : index_at now q ≡ index_at h q
  stays = taken.index q ∙ ap (λ (b : Bool). if b then None else index_at h q) fresh

  pub taken_out : (new : HoldState) (buf : Buffer) (named : Bool) → index_at now q ≡ Some buf.index → buffer_at now buf.index ≡ Some buf → new ≡ with_cell now buf.index None
      → ((p : Place) → index_at new p ≡ (if is_same_place q p then None else index_at now p)) → IsHold new → AreNamedAs named h q → IsOut now new q named buf
  taken_out new buf named there stands cell index is flag = record {
    stood = by_cell (standing_at now buf.index) refl;
    cell = cell;
    index = index;
    was_hold = taken.is_hold;
    is_hold = is;
  }
    where
      by_cell : (o : Option Standing) → standing_at now buf.index ≡ o → o ≡ Some (placed q named buf)
      by_cell None e = absurd (let none = sym (ap buf_in e) ∙ stands in cc)
      by_cell (Some s) e =
          let same : s.buf ≡ buf = same_Some s.buf buf (sym (ap buf_in e) ∙ stands) in
          let place : q ≡ s.home.place = same_place-is q s.home.place (sym (ap (stands_at q) e) ∙ taken.is_hold.held q buf.index there) in
          let name : s.home.named ≡ named = sym (ap is_named_in (taken.stood buf.index s e)) ∙ flag buf.index (sym stays ∙ there) in
          ap (λ (p : Place). Some (placed p s.home.named s.buf)) (sym place) ∙ (ap (λ (n : Bool). Some (placed q n s.buf)) name ∙ ap (λ (b : Buffer). Some (placed q named b)) same)
