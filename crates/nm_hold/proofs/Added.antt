-- A buffer that comes into an empty place, in the cells and in the tables.
use Rattle.std.proofs.Common.{ℕ, ◌≡◌, ◌<◌, ◌≤◌, if◌then◌else◌, true, List, length, map, slice_set, Option, Some, None, refl, sym, ◌∙◌, ap, arith}
use Rattle.std.proofs.lemmas.List.{length-set}
use Rattle.nm_types.specs.declared.place.Place.{Place}
use Rattle.nm_types.specs.Places.{is_same_place}
use Rattle.nm_types.specs.Buffers.{IsBufferIndex}
use Rattle.nm_hold.specs.declared.standing.Standing.{Standing}
use Rattle.nm_hold.specs.declared.table.PortTable.{PortTable}
use Rattle.nm_hold.specs.Offsets.{has_place}
use Rattle.nm_hold.specs.Tables.{ports_of, number_at, put_in}
use Rattle.nm_hold.specs.Holds.{HoldState, buffers_of, index_at, standing_at, with_cell, IsHold}
use Rattle.nm_hold.specs.Ties.{AreHeld, IsTied}
use Rattle.nm_hold.proofs.Numbers.{ports_of-put}
use Rattle.nm_hold.proofs.Tied.{held-number}
use Rattle.nm_hold.proofs.Shown.{number_if-none, IsHold-stored}
use Rattle.nm_hold.proofs.Steps.{put_are_tables, added_tied, added_places}

abbrev hold_of : List (Option Standing) → List PortTable → HoldState
hold_of cells tables = record { cells = cells; ports = ports_of tables }

pub record Added (cells : List (Option Standing)) (tables : List PortTable) (s : Standing) (new : List (Option Standing)) (after : List PortTable) : Type 0 where
  pub whole : AreHeld new after
  pub cell : hold_of new after ≡ with_cell (hold_of cells tables) s.buf.index (Some s)
  pub places : (q : Place) → index_at (hold_of new after) q ≡ (if is_same_place s.home.place q then Some s.buf.index else index_at (hold_of cells tables) q)
  pub hold : IsHold (hold_of new after)

added_at : (cells : List (Option Standing)) (tables : List PortTable) (s : Standing) → AreHeld cells tables → has_place (ports_of tables) s.home.place ≡ true → index_at (hold_of cells tables) s.home.place ≡ None
    → IsBufferIndex (buffers_of (hold_of cells tables)) s.buf.index → standing_at (hold_of cells tables) s.buf.index ≡ None
    → Added cells tables s (slice_set cells s.buf.index (Some s)) (map (put_in s.home.place s.buf.index) tables)
added_at cells tables s held has unheld index unused =
    let p = s.home.place in
    let idx = s.buf.index in
    let empty = number_if-none (number_at tables p) (sym (held-number cells tables p held.tied) ∙ unheld) in
    let within : idx < length cells = omega (arith, index, held.low) in
    let low : 2 ≤ idx = omega (arith, index) in
    let new = slice_set cells idx (Some s) in
    let after = map (put_in p idx) tables in
    let tied : IsTied new after = added_tied cells tables p idx s held.tables held.tied has empty unused within low refl refl in
    let count = length-set cells idx (Some s) in
    let whole : AreHeld new after = record {
      low = rw count held.low;
      high = rw count held.high;
      tables = put_are_tables p idx tables held.tables;
      once = rw (ports_of-put p idx tables) held.once;
      tied = tied;
    } in
    record {
      whole = whole;
      cell = rw (ports_of-put p idx tables) refl;
      places = λ q. added_places cells new tables p idx held.tables held.tied has (omega (arith, low)) tied q;
      hold = IsHold-stored new after whole.low whole.high whole.tables whole.once whole.tied;
    }

-- the same of cells and tables that are known by equations
pub added : (cells : List (Option Standing)) (tables : List PortTable) (s : Standing) (idx : ℕ) (new : List (Option Standing)) (after : List PortTable) → AreHeld cells tables → has_place (ports_of tables) s.home.place ≡ true
    → index_at (hold_of cells tables) s.home.place ≡ None → IsBufferIndex (buffers_of (hold_of cells tables)) s.buf.index → standing_at (hold_of cells tables) s.buf.index ≡ None
    → idx ≡ s.buf.index → new ≡ slice_set cells idx (Some s) → after ≡ map (put_in s.home.place idx) tables → Added cells tables s new after
added cells tables s idx new after held has unheld index unused number cell table =
    let start = added_at cells tables s held has unheld index unused in
    let cells_are : new ≡ slice_set cells s.buf.index (Some s) = cell ∙ ap (λ (n : ℕ). slice_set cells n (Some s)) number in
    let tables_are : after ≡ map (put_in s.home.place s.buf.index) tables = table ∙ ap (λ (n : ℕ). map (put_in s.home.place n) tables) number in
    rw (cells_are, tables_are) start
