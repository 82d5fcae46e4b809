use Rattle.std.proofs.Common.{ℕ, nat_eq, ◌≡◌, ◌<◌, ◌≤◌, ◌+◌, ◌∙◌, List, length, map, slice_set, Option, Some, None, refl, sym, ap, arith, rules, length-append}
use Rattle.std.specs.Prelude.{is_some}
use Rattle.std.specs.HashMap.{get}
use Rattle.nm_region.specs.Buffers.{Buffer}
use Rattle.nm_hold.specs.declared.standing.Standing.{Standing}
use Rattle.nm_hold.specs.Holds.{HoldState, cell_at}
use Rattle.nm_types.proofs.RingSteps.{step_on-below}
use Rattle.nm_hold.specs.Tables.{number_at, places_before, ports_of, put_in}
use Rattle.nm_hold.specs.Indexed.{tables_present, row_at}
use Rattle.nm_hold.specs.Takes.{place_in}
use Rattle.nm_hold.proofs.Finding.{indexed-put}
use Rattle.nm_hold.proofs.Tied.{standing_by_number}
use Rattle.nm_hold.proofs.Takes.{still_held, one_removed, later_numbered, none_out, one_more, row_any, row_within, spot_is, spot_within, cleared_spot, ahead_stays, none_to_take}
use Rattle.nm_hold.proofs.taking.take_run.Goals as goal

pub returns-in_default-clause-taken : goal.returns-in_default-clause-taken
returns-in_default-clause-taken c =
    let index = get nat_eq c.args.indices.now in
    let rows = c.args.rows.now in
    let none : index c.args.run.port.0 ≡ None = sym c.row_of.ensures.row ∙ c.in_default.is in
    none_out (record { cells = c.args.cells.now; ports = ports_of (tables_present rows) }) c.args.run c.args.count c.args.back.now.items
    (none_to_take rows index c.args.run c.args.count c.requires.indexed none c.requires.held)

pub offset_bounds-rows-at : goal.offset_bounds-rows-at
offset_bounds-rows-at c =
    let index = get nat_eq c.args.indices.now in
    let within = row_within c.args.rows.now index c.in-Some.at c.args.run 0 c.requires.indexed (sym c.row_of.ensures.row ∙ c.in-Some.is) in
    search rules

pub bounds-rows-at : goal.bounds-rows-at
bounds-rows-at c =
    let index = get nat_eq c.args.indices.now in
    row_within c.args.rows.now index c.in-Some.at c.args.run 0 c.requires.indexed (sym c.row_of.ensures.row ∙ c.in-Some.is)

pub loop-k-init : goal.loop-k-init
loop-k-init c =
    let index = get nat_eq c.args.indices.now in
    let rows = c.args.rows.now in
    let within = row_within rows index c.in-Some.at c.args.run 0 c.requires.indexed (sym c.row_of.ensures.row ∙ c.in-Some.is) in (
      c.requires.indexed,
      c.requires.whole,
      (λ j above below. c.requires.held j below),
      none_out (record { cells = c.args.cells.now; ports = ports_of (tables_present rows) }) c.args.run 0 c.args.back.now.items refl,
      refl,
      c.places_before-ahead.ensures.count ∙ ap (places_before c.args.run.side) (row_any rows c.in-Some.at c.index-rows-at.result within),
    )

pub offset_bounds-rows-at-in-loop-k : goal.offset_bounds-rows-at-in-loop-k
offset_bounds-rows-at-in-loop-k c =
    let index = get nat_eq c.args.indices.now in
    let within = row_within c.loop-k.rows index c.in-Some.at c.args.run c.loop-k.k c.loop-k.invariant.0 (sym c.row_of.ensures.row ∙ c.in-Some.is) in
    search rules

pub bounds-rows-at-in-loop-k : goal.bounds-rows-at-in-loop-k
bounds-rows-at-in-loop-k c =
    let index = get nat_eq c.args.indices.now in
    row_within c.loop-k.rows index c.in-Some.at c.args.run c.loop-k.k c.loop-k.invariant.0 (sym c.row_of.ensures.row ∙ c.in-Some.is)

pub overflow_add-place : goal.overflow_add-place
overflow_add-place c =
    let below = step_on-below c.args.run.size c.args.run.first c.loop-k.k c.requires.first in
    omega (arith, c.places_before-ahead.ensures.few, c.slot.ensures, below, c.requires.size)

pub clear_at-idx-requires : goal.clear_at-idx-requires
clear_at-idx-requires c = spot_within c.loop-k.rows (get nat_eq c.args.indices.now) c.in-Some.at c.args.run c.loop-k.k c.loop-k.invariant.0 (sym c.row_of.ensures.row ∙ c.in-Some.is) c.loop-k.invariant.1.tables (c.loop-k.invariant.2 c.loop-k.k (omega arith) c.loop-k-test.true) c.index-rows-at-in-loop-k.result (c.places_before-ahead.result + c.slot.result) (spot_is (row_at c.loop-k.rows c.in-Some.at) c.args.run c.loop-k.k c.places_before-ahead.result c.slot.result c.loop-k.invariant.5 c.slot.ensures)

pub take-requires : goal.take-requires
take-requires c =
    let f = cleared_spot c.loop-k.rows (get nat_eq c.args.indices.now) c.in-Some.at c.args.run c.loop-k.k c.loop-k.invariant.0 (sym c.row_of.ensures.row ∙ c.in-Some.is) c.loop-k.invariant.1.tables (c.loop-k.invariant.2 c.loop-k.k (omega arith) c.loop-k-test.true) c.index-rows-at-in-loop-k.result (c.places_before-ahead.result + c.slot.result) (spot_is (row_at c.loop-k.rows c.in-Some.at) c.args.run c.loop-k.k c.places_before-ahead.result c.slot.result c.loop-k.invariant.5 c.slot.ensures) c.clear_at-idx.new.row c.clear_at-idx.result c.clear_at-idx.ensures.number c.clear_at-idx.ensures.row in
    let some = c.loop-k.invariant.2 c.loop-k.k (omega arith) c.loop-k-test.true in
    let found = standing_by_number c.loop-k.cells (tables_present c.loop-k.rows) (place_in c.args.run c.loop-k.k) c.loop-k.invariant.1.tied some in
    let there : cell_at c.loop-k.cells c.clear_at-idx.result ≡ Some found.0 = ap (cell_at c.loop-k.cells) f.number ∙ found.1 in
    ap (λ (cell : Option Standing). is_some cell) there

pub push_reserved-requires : goal.push_reserved-requires
push_reserved-requires c =
    let taken = c.loop-k.invariant.3 in
    let count : length c.loop-k.back.items ≡ length c.args.back.now.items + c.loop-k.k = ap (λ (xs : List Buffer). length xs) taken.joined ∙ (length-append c.args.back.now.items taken.out ∙ ap (λ (n : ℕ). length c.args.back.now.items + n) taken.count) in
    omega (arith, count, c.requires.room, c.loop-k.invariant.4, c.loop-k-test.true, c.loop-k.back.ok.0)

pub loop-k-preserved : goal.loop-k-preserved
loop-k-preserved c =
    let f = cleared_spot c.loop-k.rows (get nat_eq c.args.indices.now) c.in-Some.at c.args.run c.loop-k.k c.loop-k.invariant.0 (sym c.row_of.ensures.row ∙ c.in-Some.is) c.loop-k.invariant.1.tables (c.loop-k.invariant.2 c.loop-k.k (omega arith) c.loop-k-test.true) c.index-rows-at-in-loop-k.result (c.places_before-ahead.result + c.slot.result) (spot_is (row_at c.loop-k.rows c.in-Some.at) c.args.run c.loop-k.k c.places_before-ahead.result c.slot.result c.loop-k.invariant.5 c.slot.ensures) c.clear_at-idx.new.row c.clear_at-idx.result c.clear_at-idx.ensures.number c.clear_at-idx.ensures.row in
    let some = c.loop-k.invariant.2 c.loop-k.k (omega arith) c.loop-k-test.true in
    let index = get nat_eq c.args.indices.now in
    let rows = c.loop-k.rows in
    let cells = c.loop-k.cells in
    let tables = tables_present rows in
    let run = c.args.run in
    let k = c.loop-k.k in
    let p = place_in run k in
    let inv = c.loop-k.invariant in
    let idx = c.clear_at-idx.result in
    let start : HoldState = record { cells = c.args.cells.now; ports = ports_of (tables_present c.args.rows.now) } in
    let now : HoldState = record { cells = cells; ports = ports_of tables } in
    let new : HoldState = record { cells = slice_set cells idx None; ports = ports_of (map (put_in p 0) tables) } in
    let one = one_removed cells tables inv.1 p idx c.take.result f.number c.take.ensures.buffer in
    let whole = still_held cells tables inv.1 p idx c.take.result f.number c.take.ensures.buffer in
    let later : (j : ℕ) → k + 1 ≤ j → j < c.args.count → 0 < number_at (map (put_in p 0) tables) (place_in run j) = (λ j above below.
    later_numbered cells tables inv.1 run k j c.requires.first (omega (arith, above)) (omega (arith, below, c.requires.count)) some (inv.2 j (omega (arith, above)) below)) in
    let taken = one_more start now new run k c.args.back.now.items c.loop-k.back.items c.take.result inv.3 one in (
      rw f.row (indexed-put rows index c.in-Some.at p 0 inv.0),
      rw (c.take.ensures.cells, f.tables) whole,
      rw f.tables later,
      rw (c.take.ensures.cells, f.tables, c.push_reserved.ensures.items) taken,
      c.push_reserved.ensures.capacity ∙ inv.4,
      inv.5 ∙ sym (ahead_stays rows index c.in-Some.at run k inv.0 (sym c.row_of.ensures.row ∙ c.in-Some.is) inv.1.tables some c.index-rows-at-in-loop-k.result (c.places_before-ahead.result + c.slot.result) (spot_is (row_at rows c.in-Some.at) run k c.places_before-ahead.result c.slot.result inv.5 c.slot.ensures) c.clear_at-idx.new.row idx f),
    )

pub returns-clause-indexed : goal.returns-clause-indexed
returns-clause-indexed c = c.loop-k.invariant.0

pub returns-clause-whole : goal.returns-clause-whole
returns-clause-whole c = c.loop-k.invariant.1

pub returns-clause-taken : goal.returns-clause-taken
returns-clause-taken c =
    let full : c.loop-k.k ≡ c.args.count = search rules in
    rw (← full) c.loop-k.invariant.3
