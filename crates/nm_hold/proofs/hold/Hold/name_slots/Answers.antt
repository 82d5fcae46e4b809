use Rattle.std.proofs.Common.{ℕ, ◌≡◌, ◌<◌, ◌∙◌, Option, Some, length, map, refl, sym, ap, arith}
use Rattle.std.specs.Prelude.{is_some, slice_index_or}
use Rattle.std.proofs.lemmas.List.{length-map}
use Rattle.nm_types.specs.declared.place.Place.TheVariants.{Tx}
use Rattle.nm_hold.specs.declared.standing.Standing.{Standing}
use Rattle.nm_hold.specs.Tables.{number_at}
use Rattle.nm_hold.specs.Holds.{cell_at}
use Rattle.nm_hold.specs.Ties.{IsTied}
use Rattle.nm_hold.specs.Renames.{cell_named_in, tx_slots}
use Rattle.nm_hold.proofs.Finding.{found_is_table}
use Rattle.nm_hold.proofs.Tied.{standing_by_number}
use Rattle.nm_hold.proofs.Shown.{held_has_number, IsHold-stored}
use Rattle.nm_hold.proofs.Slotted.{tx_numbers, none_numbered}
use Rattle.nm_hold.proofs.Renamed.{renamed_are, named_tied}
use Rattle.nm_hold.proofs.hold.Hold.name_slots.Goals as goal

pub slots-numbers-requires : goal.slots-numbers-requires
slots-numbers-requires c =
    let found = rw c.in-Some.is at c.table.ensures.table in
    found_is_table c.self.inside.ports.tables c.args.port.0 c.in-Some.table.now c.self.invariant.tables (sym found)

pub name_cells-requires-clause-stands : goal.name_cells-requires-clause-stands
name_cells-requires-clause-stands c at below =
    let cells = c.self.inside.cells in
    let tables = c.self.inside.ports.tables in
    let q = Tx c.args.port at in
    let tied = c.self.invariant.tied in
    let found = rw c.in-Some.is at c.table.ensures.table in
    let some : 0 < number_at tables q = held_has_number cells tables q tied (rw (← c.self.view_is) at (c.requires.held at below)) in
    let stands = standing_by_number cells tables q tied some in
    let number : number_at tables q ≡ slice_index_or c.slots-numbers.result.now at 0 = rw c.slots-numbers.ensures.slots (tx_numbers tables c.args.port c.in-Some.table.now c.self.invariant.once (sym found) at) in
    let there : cell_at cells (slice_index_or c.slots-numbers.result.now at 0) ≡ Some stands.0 = ap (cell_at cells) (sym number) ∙ stands.1 in
    ap (λ (cell : Option Standing). is_some cell) there

pub unreachable-requires : goal.unreachable-requires
unreachable-requires c =
    let cells = c.self.inside.cells in
    let tables = c.self.inside.ports.tables in
    let q = Tx c.args.port c.args.first in
    let found = rw c.in-None.is at c.table.ensures.table in
    let some : 0 < number_at tables q = held_has_number cells tables q c.self.invariant.tied (rw (← c.self.view_is) at (c.requires.held c.args.first c.requires.first)) in
    let none : number_at tables q ≡ 0 = none_numbered tables c.args.port c.self.invariant.once (sym found) c.args.first in
    omega (arith, some, none)

-- the cells afterwards, by their places
record Step (c : goal.After-name_cells) : Type 0 where
  is : c.name_cells.new.cells ≡ map (cell_named_in c.args.named (tx_slots c.args.port c.args.size c.args.first c.args.count)) c.self.inside.cells
  tied : IsTied (map (cell_named_in c.args.named (tx_slots c.args.port c.args.size c.args.first c.args.count)) c.self.inside.cells) c.self.inside.ports.tables

step : (c : goal.After-name_cells) → Step c
step c =
    let cells = c.self.inside.cells in
    let tables = c.self.inside.ports.tables in
    let tied = c.self.invariant.tied in
    let port = c.args.port in
    let found = rw c.in-Some.is at c.table.ensures.table in
    let numbered : (at : ℕ) → number_at tables (Tx port at) ≡ slice_index_or c.slots-numbers.result.now at 0 = (λ at. rw c.slots-numbers.ensures.slots (tx_numbers tables port c.in-Some.table.now c.self.invariant.once (sym found) at)) in
    let held : (at : ℕ) → at < c.args.size → 0 < number_at tables (Tx port at) = (λ at below. held_has_number cells tables (Tx port at) tied (rw (← c.self.view_is) at (c.requires.held at below))) in
    record {
      is = c.name_cells.ensures ∙ renamed_are cells tables port c.slots-numbers.result.now c.args.size c.args.first c.args.named tied numbered held c.args.count c.requires.first;
      tied = named_tied cells tables c.args.named (tx_slots port c.args.size c.args.first c.args.count) tied;
    }

pub invariant_of-self : goal.invariant_of-self
invariant_of-self c =
    let f = step c in
    let inv = c.self.invariant in
    let count : length c.name_cells.new.cells ≡ length c.self.inside.cells = rw f.is (length-map c.self.inside.cells (cell_named_in c.args.named (tx_slots c.args.port c.args.size c.args.first c.args.count))) in
    record { low = rw count inv.low; high = rw count inv.high; tables = inv.tables; once = inv.once; tied = rw f.is f.tied }

pub returns-clause-cells : goal.returns-clause-cells
returns-clause-cells c =
    let f = step c in
    rw (← c.self.view_is, f.is) refl

pub returns-clause-hold : goal.returns-clause-hold
returns-clause-hold c = let inv = invariant_of-self c in IsHold-stored _ _ inv.low inv.high inv.tables inv.once inv.tied
