-- Buffers that are taken out of the slots of a run, one after another.
use Rattle.std.proofs.Common.{ℕ, zero, suc, ◌≡◌, ◌<◌, ◌+◌, false, List, [], ◌∷◌, ◌++◌, length, map, slice_set, Option, Some, None, inl, inr, refl, sym, ◌∙◌, ap, arith, append_assoc, length-append}
use Rattle.std.specs.Prelude.{All, IfSome, option_map, slice_index, slice_index_or}
use Rattle.std.specs.Option.{option_map_or}
use Rattle.std.specs.Vec.{with_item}
use Rattle.std.proofs.lemmas.Bool.{cases_Bool}
use Rattle.std.proofs.lemmas.List.{length-set, reverse-append, length-reverse, append-nil}
use Rattle.nm_types.specs.declared.id.PortId.{PortId}
use Rattle.nm_types.specs.declared.id.Side.{Side}
use Rattle.nm_types.specs.declared.id.Side.TheVariants as side
use Rattle.nm_types.specs.declared.place.Place.{Place}
use Rattle.nm_types.specs.declared.place.Place.TheVariants.{Tx, Rx, Extra}
use Rattle.nm_types.specs.Places.{is_same_place}
use Rattle.nm_types.specs.Positions.{dist, step_on}
use Rattle.nm_types.proofs.RingSteps.{dist-step_on}
use Rattle.nm_region.specs.Buffers.{Buffer}
use Rattle.nm_hold.specs.declared.standing.Standing.{Standing}
use Rattle.nm_hold.specs.declared.table.PortTable.{PortTable}
use Rattle.nm_hold.specs.declared.taking.SlotRun.{SlotRun}
use Rattle.nm_hold.specs.Standings.{buf_in}
use Rattle.nm_hold.specs.declared.table.PortPlaces.{PortPlaces}
use Rattle.nm_hold.specs.Offsets.{offset_of}
use Rattle.nm_hold.specs.Tables.{IsTable, ports_of, number_at, number_in, places_before, put_in}
use Rattle.nm_hold.specs.Holds.{HoldState, cell_at, slot_on, port_of}
use Rattle.nm_hold.specs.Indexed.{tables_present, row_at, port_at, number_in_row, IsIndexed}
use Rattle.nm_hold.specs.Takes.{place_in, IsRemoved, AreTakenBehind}
use Rattle.nm_hold.specs.Ties.{AreHeld}
use Rattle.nm_hold.proofs.Spots.{same_place-is, tx_stands, rx_stands, offset-within}
use Rattle.nm_hold.proofs.Numbers.{places-put_in, ports_of-put, has_place-from_number}
use Rattle.nm_hold.proofs.Tied.{number_if-some, held-number}
use Rattle.nm_hold.proofs.Shown.{IsHold-stored}
use Rattle.nm_hold.proofs.Steps.{Removed, removed, put_are_tables, put_number, removed_places}
use Rattle.nm_hold.proofs.Finding.{row_is_table, within_rows, apart-indexed, put-row, number-row, number-none}
use Rattle.nm_hold.proofs.Slotted.{port_on}

abbrev position : Place → ℕ
position (Tx port at) = at
position (Rx port at) = at
position (Extra port at) = at

position_on : (s : Side) (port : PortId) (at : ℕ) → position (slot_on s port at) ≡ at
position_on side.Tx port at = refl
position_on side.Rx port at = refl

-- no place is there twice
pub run_apart : (r : SlotRun) (j k : ℕ) → r.first < r.size → j < k → k < r.size → is_same_place (place_in r j) (place_in r k) ≡ false
run_apart r j k within below few = elim (cases_Bool (is_same_place (place_in r j) (place_in r k))) [
  | inl same ↦ absurd (let alike : step_on r.size r.first j ≡ step_on r.size r.first k =
      sym (position_on r.side r.port (step_on r.size r.first j)) ∙ (ap position (same_place-is (place_in r j) (place_in r k) same) ∙ position_on r.side r.port (step_on r.size r.first k)) in
      let steps : j ≡ k = sym (dist-step_on r.size r.first j within (omega (arith, below, few))) ∙ (ap (dist r.size r.first) alike ∙ dist-step_on r.size r.first k within few) in
      omega (arith, steps, below))
  | inr other ↦ other
]

abbrev hold_of : List (Option Standing) → List PortTable → HoldState
hold_of cells tables = record { cells = cells; ports = ports_of tables }

-- one buffer is taken out
module _ (cells : List (Option Standing)) (tables : List PortTable) (held : AreHeld cells tables) (p : Place) (idx : ℕ) (buf : Buffer) (number : idx ≡ number_at tables p) (there : buf_in (cell_at cells idx) ≡ Some buf) where
  gone : Removed cells tables p idx buf
  gone = removed cells tables p idx buf held.tables held.tied number there

  pub still_held : AreHeld (slice_set cells idx None) (map (put_in p 0) tables)
  still_held =
      let count = length-set cells idx None in
      record { low = rw count held.low; high = rw count held.high; tables = put_are_tables p 0 tables held.tables; once = rw (ports_of-put p 0 tables) held.once; tied = gone.tied }

  pub one_removed : IsRemoved (hold_of cells tables) (hold_of (slice_set cells idx None) (map (put_in p 0) tables)) p buf
  one_removed =
      let same = ports_of-put p 0 tables in
      let whole = still_held in
      record {
        index = held-number cells tables p held.tied ∙ (number_if-some (number_at tables p) gone.some ∙ ap (λ (n : ℕ). Some n) (sym number ∙ sym gone.index));
        buffer = ap (λ (n : ℕ). buf_in (cell_at cells n)) gone.index ∙ there;
        cell = rw (same, gone.index) refl;
        places = removed_places cells (slice_set cells idx None) tables p held.tables held.tied gone.some gone.tied;
        hold = IsHold-stored (slice_set cells idx None) (map (put_in p 0) tables) whole.low whole.high whole.tables whole.once whole.tied;
      }

-- a place that comes later still holds its buffer
pub later_numbered : (cells : List (Option Standing)) (tables : List PortTable) (held : AreHeld cells tables) (r : SlotRun) (k j : ℕ) → r.first < r.size → k < j → j < r.size
    → 0 < number_at tables (place_in r k) → 0 < number_at tables (place_in r j) → 0 < number_at (map (put_in (place_in r k) 0) tables) (place_in r j)
later_numbered cells tables held r k j within below few here there =
    let p = place_in r k in
    rw (put_number p 0 tables held.tables (has_place-from_number tables p here) (place_in r j), run_apart r k j within below few) there

-- none yet, and one more
pub none_out : (h : HoldState) (run : SlotRun) (n : ℕ) (before : List Buffer) → n ≡ 0 → AreTakenBehind h run n h before before
none_out h run n before none = record { out = []; joined = sym (append-nil before); count = sym none; removed = refl }

pub one_more : (h now new : HoldState) (run : SlotRun) (k : ℕ) (before after : List Buffer) (buf : Buffer) → AreTakenBehind h run k now before after → IsRemoved now new (place_in run k) buf
    → AreTakenBehind h run (k + 1) new before (after ++ buf ∷ [])
one_more h now new run k before after buf taken one = record {
  out = taken.out ++ buf ∷ [];
  joined = ap (λ (all : List Buffer). all ++ buf ∷ []) taken.joined ∙ append_assoc before taken.out (buf ∷ []);
  count = length-append taken.out (buf ∷ []) ∙ ap (λ (n : ℕ). n + 1) taken.count;
  removed = rw (reverse-append taken.out (buf ∷ []), length-reverse taken.out, taken.count) ((now, (taken.removed, one)));
}

-- where a slot stands among the places of its port
offset_on : (s : Side) (t : PortTable) (port : PortId) (slot at : ℕ) → offset_of t.places (slot_on s port slot) ≡ Some at → at ≡ places_before s (Some t) + slot
offset_on side.Tx t port slot at e = (tx_stands t.places port slot at e).there
offset_on side.Rx t port slot at e = (rx_stands t.places port slot at e).there

abbrev spot_in : Option PortTable → SlotRun → ℕ → ℕ
spot_in row r k = places_before r.side row + step_on r.size r.first k

-- a slot that holds a buffer, so many places behind the first one of its port
pub record IsSpot (found : Option PortTable) (r : SlotRun) (k : ℕ) : Type 0 where
  pub within : IfSome found (λ (t : PortTable). spot_in found r k < length t.numbers.items)
  pub number : option_map_or (λ (t : PortTable). slice_index t.numbers.items (spot_in found r k)) found 0 ≡ number_in_row found (place_in r k)
  pub cleared : option_map (λ (t : PortTable). record t { numbers = with_item t.numbers (spot_in found r k) 0 }) found ≡ option_map (put_in (place_in r k) 0) found

spot_by : (t : PortTable) (r : SlotRun) (k : ℕ) (o : Option ℕ) → offset_of t.places (place_in r k) ≡ o → IsTable t → 0 < number_in t (place_in r k) → IsSpot (Some t) r k
spot_by t r k None e table some = absurd (let none : 0 < 0 = rw e at some in omega (arith, none))
spot_by t r k (Some at) e table some =
    let here : at ≡ spot_in (Some t) r k = offset_on r.side t r.port (step_on r.size r.first k) at e in
    let below = offset-within t.places (place_in r k) at e in
    let full = table.full in
    let there : option_map (put_in (place_in r k) 0) (Some t) ≡ Some (record t { numbers = with_item t.numbers at 0 }) = rw e refl in
    let read : number_in t (place_in r k) ≡ slice_index t.numbers.items at = rw e refl in
    record {
      within = omega (arith, here, below, full);
      number = ap (λ (n : ℕ). slice_index t.numbers.items n) (sym here) ∙ sym read;
      cleared = ap (λ (n : ℕ). let put : PortTable = record t { numbers = with_item t.numbers n 0 } in Some put) (sym here) ∙ sym there;
    }

pub spot : (row : Option PortTable) (r : SlotRun) (k : ℕ) → IfSome row IsTable → 0 < number_in_row row (place_in r k) → IsSpot row r k
spot None r k table some = absurd (omega (arith, some))
spot (Some t) r k table some = spot_by t r k (offset_of t.places (place_in r k)) refl table some

-- the places before a side stay as they are once a place is cleared
pub before_stays : (s : Side) (p : Place) (row : Option PortTable) → places_before s (option_map (put_in p 0) row) ≡ places_before s row
before_stays s p None = refl
before_stays side.Tx p (Some t) = refl
before_stays side.Rx p (Some t) = ap (λ (q : PortPlaces). q.sizes.tx) (places-put_in p 0 t (offset_of t.places p) refl)

pub row_set : (rows : List (Option PortTable)) (at : ℕ) (row : Option PortTable) → at < length rows → row_at (slice_set rows at row) at ≡ row
row_set [] at row h = absurd (omega (arith, h))
row_set (r ∷ rows) zero row h = refl
row_set (r ∷ rows) (suc at) row h = row_set rows at row (omega (arith, h))

-- the row of the run's port
pub row_any : (rows : List (Option PortTable)) (at : ℕ) (row : Option PortTable) → at < length rows → slice_index_or rows at row ≡ row_at rows at
row_any [] at row h = absurd (omega (arith, h))
row_any (r ∷ rows) zero row h = refl
row_any (r ∷ rows) (suc at) row h = row_any rows at row (omega (arith, h))

module _ (rows : List (Option PortTable)) (index : ℕ → Option ℕ) (at : ℕ) (r : SlotRun) (k : ℕ) (is : IsIndexed rows index) (found : index r.port.0 ≡ Some at) where
  port_is : port_of (place_in r k) ≡ r.port.0
  port_is = port_on r.side r.port (step_on r.size r.first k)

  there_at : port_at rows at ≡ Some (port_of (place_in r k))
  there_at = is.there at r.port.0 found ∙ ap (λ (n : ℕ). Some n) (sym port_is)

  pub row_within : at < length rows
  row_within = within_rows rows at r.port.0 (is.there at r.port.0 found)

  pub number_is : number_in_row (row_at rows at) (place_in r k) ≡ number_at (tables_present rows) (place_in r k)
  number_is = number-row rows index at (place_in r k) is (ap index port_is ∙ found)

  pub rows_put : tables_present (slice_set rows at (option_map (put_in (place_in r k) 0) (row_at rows at))) ≡ map (put_in (place_in r k) 0) (tables_present rows)
  rows_put = sym (put-row rows at (place_in r k) 0 (apart-indexed rows index is) there_at)

-- the number that is read in the row, and the tables after it is cleared
pub record Cleared (rows : List (Option PortTable)) (at : ℕ) (r : SlotRun) (k got : ℕ) (new : Option PortTable) : Type 0 where
  pub number : got ≡ number_at (tables_present rows) (place_in r k)
  pub row : new ≡ option_map (put_in (place_in r k) 0) (row_at rows at)
  pub tables : tables_present (slice_set rows at new) ≡ map (put_in (place_in r k) 0) (tables_present rows)

pub spot_is : (row : Option PortTable) (r : SlotRun) (k a b : ℕ) → a ≡ places_before r.side row → b ≡ step_on r.size r.first k → a + b ≡ spot_in row r k
spot_is row r k a b e f = ap (λ (n : ℕ). n + b) e ∙ ap (λ (n : ℕ). places_before r.side row + n) f

-- a slot that is found by the places before its side
module _ (rows : List (Option PortTable)) (index : ℕ → Option ℕ) (at : ℕ) (r : SlotRun) (k : ℕ) (is : IsIndexed rows index) (found : index r.port.0 ≡ Some at)
    (all : All IsTable (tables_present rows)) (some : 0 < number_at (tables_present rows) (place_in r k)) (other : Option PortTable) (a : ℕ) (there : a ≡ spot_in (row_at rows at) r k)
  where
    read_row : slice_index_or rows at other ≡ row_at rows at
    read_row = row_any rows at other (row_within rows index at r k is found)

    spot_there : IsSpot (row_at rows at) r k
    spot_there = spot (row_at rows at) r k (row_is_table rows at all) (rw (number_is rows index at r k is found) some)

    pub spot_within : IfSome (slice_index_or rows at other) (λ (t : PortTable). a < length t.numbers.items)
    spot_within = rw (read_row, there) spot_there.within

    pub cleared_spot : (new : Option PortTable) (got : ℕ) → got ≡ option_map_or (λ (t : PortTable). slice_index t.numbers.items a) (slice_index_or rows at other) 0
        → new ≡ option_map (λ (t : PortTable). record t { numbers = with_item t.numbers a 0 }) (slice_index_or rows at other) → Cleared rows at r k got new
    cleared_spot new got number row =
        let p = place_in r k in
        let read = read_row in
        let s = spot_there in
        let after : new ≡ option_map (put_in p 0) (row_at rows at) =
        row ∙ (ap (λ (n : ℕ). option_map (λ (t : PortTable). record t { numbers = with_item t.numbers n 0 }) (slice_index_or rows at other)) there
        ∙ (ap (λ (o : Option PortTable). option_map (λ (t : PortTable). record t { numbers = with_item t.numbers (spot_in (row_at rows at) r k) 0 }) o) read ∙ s.cleared)) in
        record {
          number = number ∙ (ap (λ (n : ℕ). option_map_or (λ (t : PortTable). slice_index t.numbers.items n) (slice_index_or rows at other) 0) there
              ∙ (ap (λ (o : Option PortTable). option_map_or (λ (t : PortTable). slice_index t.numbers.items (spot_in (row_at rows at) r k)) o 0) read
              ∙ (s.number ∙ number_is rows index at r k is found)));
          row = after;
          tables = ap (λ (o : Option PortTable). tables_present (slice_set rows at o)) after ∙ rows_put rows index at r k is found;
        }

    -- as many places stand before the side then
    pub ahead_stays : (new : Option PortTable) (got : ℕ) → Cleared rows at r k got new → places_before r.side (row_at (slice_set rows at new) at) ≡ places_before r.side (row_at rows at)
    ahead_stays new got c =
        ap (places_before r.side) (row_set rows at new (row_within rows index at r k is found) ∙ c.row) ∙ before_stays r.side (place_in r k) (row_at rows at)

-- without a row there is nothing to take
pub none_to_take : (rows : List (Option PortTable)) (index : ℕ → Option ℕ) (r : SlotRun) (n : ℕ) → IsIndexed rows index → index r.port.0 ≡ None → ((k : ℕ) → k < n → 0 < number_at (tables_present rows) (place_in r k)) → n ≡ 0
none_to_take rows index r zero is none held = refl
none_to_take rows index r (suc n) is none held =
    let port = port_on r.side r.port (step_on r.size r.first 0) in
    let empty = number-none rows index (place_in r 0) is (ap index port ∙ none) in
    absurd (omega (arith, held 0 (omega arith), empty))
