-- A buffer that comes to a place, leaves it, or gets another name there.
use Rattle.std.proofs.Common.{ℕ, ◌≡◌, ◌<◌, ◌≤◌, Bool, true, false, if◌then◌else◌, List, length, map, slice_set, Option, Some, None, refl, sym, ◌∙◌, ap, arith}
use Rattle.std.specs.Prelude.{All}
use Rattle.std.proofs.lemmas.List.Elements.{All-from_recursion, recursion_from_All}
use Rattle.std.proofs.lemmas.Option.{same_Some}
use Rattle.nm_types.specs.declared.place.Place.{Place}
use Rattle.nm_types.specs.Places.{held_at, is_same_place}
use Rattle.nm_region.specs.Buffers.{Buffer}
use Rattle.nm_hold.specs.declared.standing.Standing.{Standing}
use Rattle.nm_hold.specs.declared.table.PortTable.{PortTable}
use Rattle.nm_hold.specs.Standings.{buf_in}
use Rattle.nm_hold.specs.Offsets.{has_place}
use Rattle.nm_hold.specs.Tables.{IsTable, ports_of, number_at, put_in}
use Rattle.nm_hold.specs.Holds.{cell_at, places_in}
use Rattle.nm_hold.specs.Ties.{IsTied}
use Rattle.nm_hold.proofs.Numbers.{number-put, tables-put, has_place-from_number}
use Rattle.nm_hold.proofs.Tied.{number_if, number_if-some, held-number, tied-added, tied-removed}

pub put_are_tables : (p : Place) (number : ℕ) (tables : List PortTable) → All IsTable tables → All IsTable (map (put_in p number) tables)
put_are_tables p number tables all = All-from_recursion IsTable (map (put_in p number) tables) (tables-put p number tables (recursion_from_All IsTable tables all))

pub put_number : (p : Place) (number : ℕ) (tables : List PortTable) → All IsTable tables → has_place (ports_of tables) p ≡ true → (q : Place)
    → number_at (map (put_in p number) tables) q ≡ (if is_same_place p q then number else number_at tables q)
put_number p number tables all has q = number-put p number tables q (recursion_from_All IsTable tables all) has

pub added_tied : (cells : List (Option Standing)) (tables : List PortTable) (p : Place) (idx : ℕ) (s : Standing) → All IsTable tables → IsTied cells tables → has_place (ports_of tables) p ≡ true → number_at tables p ≡ 0
    → cell_at cells idx ≡ None → idx < length cells → 2 ≤ idx → s.home.place ≡ p → s.buf.index ≡ idx → IsTied (slice_set cells idx (Some s)) (map (put_in p idx) tables)
added_tied cells tables p idx s all tied has empty none within low place index =
    tied-added cells tables (map (put_in p idx) tables) p idx s tied empty (put_number p idx tables all has) none within low place index

pub removed_tied : (cells : List (Option Standing)) (tables : List PortTable) (p : Place) → All IsTable tables → IsTied cells tables → 0 < number_at tables p
    → IsTied (slice_set cells (number_at tables p) None) (map (put_in p 0) tables)
removed_tied cells tables p all tied some =
    tied-removed cells tables (map (put_in p 0) tables) p tied some (put_number p 0 tables all (has_place-from_number tables p some))

with_buf : (cell : Option Standing) (buf : Buffer) → buf_in cell ≡ Some buf → (s : Standing) × (cell ≡ Some s) × (s.buf ≡ buf)
with_buf None buf e = cc
with_buf (Some s) buf e = (s, refl, same_Some s.buf buf e)

-- a buffer that is taken out of its place
pub record Removed (cells : List (Option Standing)) (tables : List PortTable) (p : Place) (idx : ℕ) (buf : Buffer) : Type 0 where
  pub some : 0 < number_at tables p
  pub index : buf.index ≡ idx
  pub tied : IsTied (slice_set cells idx None) (map (put_in p 0) tables)

pub removed : (cells : List (Option Standing)) (tables : List PortTable) (p : Place) (idx : ℕ) (buf : Buffer) → All IsTable tables → IsTied cells tables → idx ≡ number_at tables p → buf_in (cell_at cells idx) ≡ Some buf
    → Removed cells tables p idx buf
removed cells tables p idx buf all tied number there =
    let found = with_buf (cell_at cells idx) buf there in
    let right = tied.standing idx found.0 found.1 in
    let some : 0 < number_at tables p = omega (arith, number, right.low) in
    record { some = some; index = ap (λ (b : Buffer). b.index) (sym found.2) ∙ right.index; tied = rw number (removed_tied cells tables p all tied some) }

some_choice : (b : Bool) (idx n : ℕ) (o : Option ℕ) → 0 < idx → number_if n ≡ o → number_if (if b then idx else n) ≡ (if b then Some idx else o)
some_choice true idx n o h e = number_if-some idx h
some_choice false idx n o h e = e

none_choice : (b : Bool) (n : ℕ) (o : Option ℕ) → number_if n ≡ o → number_if (if b then 0 else n) ≡ (if b then None else o)
none_choice true n o e = refl
none_choice false n o e = e

-- what stands in each place, by the numbers before and after
pub added_places : (cells new : List (Option Standing)) (tables : List PortTable) (p : Place) (idx : ℕ) → All IsTable tables → IsTied cells tables → has_place (ports_of tables) p ≡ true → 0 < idx
    → IsTied new (map (put_in p idx) tables) → (q : Place) → held_at (places_in new) q ≡ (if is_same_place p q then Some idx else held_at (places_in cells) q)
added_places cells new tables p idx all tied has low after q =
    held-number new (map (put_in p idx) tables) q after ∙ (ap number_if (put_number p idx tables all has q)
    ∙ some_choice (is_same_place p q) idx (number_at tables q) (held_at (places_in cells) q) low (sym (held-number cells tables q tied)))

pub removed_places : (cells new : List (Option Standing)) (tables : List PortTable) (p : Place) → All IsTable tables → IsTied cells tables → 0 < number_at tables p
    → IsTied new (map (put_in p 0) tables) → (q : Place) → held_at (places_in new) q ≡ (if is_same_place p q then None else held_at (places_in cells) q)
removed_places cells new tables p all tied some after q =
    held-number new (map (put_in p 0) tables) q after ∙ (ap number_if (put_number p 0 tables all (has_place-from_number tables p some) q)
    ∙ none_choice (is_same_place p q) (number_at tables q) (held_at (places_in cells) q) (sym (held-number cells tables q tied)))

pub same_places : (cells new : List (Option Standing)) (tables : List PortTable) → IsTied cells tables → IsTied new tables → (q : Place) → held_at (places_in new) q ≡ held_at (places_in cells) q
same_places cells new tables tied after q = held-number new tables q after ∙ sym (held-number cells tables q tied)
