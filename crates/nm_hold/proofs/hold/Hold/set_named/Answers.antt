use Rattle.std.proofs.Common.{◌≡◌, length, sym, ◌∙◌, ap, refl, Option, Some}
use Rattle.std.specs.Prelude.{is_some}
use Rattle.std.proofs.lemmas.List.{length-set}
use Rattle.nm_hold.specs.declared.standing.Standing.{Standing}
use Rattle.nm_hold.specs.Standings.{cell_named}
use Rattle.nm_hold.specs.Tables.{number_at}
use Rattle.nm_hold.specs.Holds.{cell_at}
use Rattle.nm_hold.specs.Ties.{IsTied}
use Rattle.nm_hold.proofs.Tied.{tied-kept, held-number, standing_by_number}
use Rattle.nm_hold.proofs.Shown.{held_has_number, number_if-is, IsHold-stored}
use Rattle.nm_hold.proofs.Steps.{same_places}
use Rattle.nm_hold.proofs.hold.Hold.set_named.Goals as goal

pub rename-requires : goal.rename-requires
rename-requires c =
    let cells = c.self.inside.cells in
    let tables = c.self.inside.ports.tables in
    let number = c.number-idx.ensures in
    let some = held_has_number cells tables c.args.place c.self.invariant.tied (rw (← c.self.view_is) at c.requires) in
    let found = standing_by_number cells tables c.args.place c.self.invariant.tied some in
    let there : cell_at cells c.number-idx.result ≡ Some found.0 = ap (cell_at cells) number ∙ found.1 in
    ap (λ (cell : Option Standing). is_some cell) there

-- the cells afterwards still tell the same as the tables
tied_after : (c : goal.After-rename) → IsTied c.rename.new.self c.self.inside.ports.tables
tied_after c =
    let cells = c.self.inside.cells in
    let tables = c.self.inside.ports.tables in
    let idx = c.number-idx.result in
    let tied = c.self.invariant.tied in
    let some = held_has_number cells tables c.args.place tied (rw (← c.self.view_is) at c.requires) in
    let found = standing_by_number cells tables c.args.place tied some in
    let s = found.0 in
    let there : cell_at cells idx ≡ Some s = ap (cell_at cells) c.number-idx.ensures ∙ found.1 in
    let new : Standing = record { home = record { place = s.home.place; named = c.args.named }; buf = s.buf } in
    rw (c.rename.ensures, there) (tied-kept cells tables idx s new tied there refl refl)

pub invariant_of-self : goal.invariant_of-self
invariant_of-self c =
    let inv = c.self.invariant in
    let cells = c.self.inside.cells in
    let idx = c.number-idx.result in
    let count : length c.rename.new.self ≡ length cells = rw c.rename.ensures (length-set cells idx (cell_named c.args.named (cell_at cells idx))) in
    record { low = rw count inv.low; high = rw count inv.high; tables = inv.tables; once = inv.once; tied = tied_after c }

pub returns-clause-cell : goal.returns-clause-cell
returns-clause-cell c idx e =
    let number = c.number-idx.ensures in
    let held = held-number c.self.inside.cells c.self.inside.ports.tables c.args.place c.self.invariant.tied in
    let at = (number_if-is (number_at c.self.inside.ports.tables c.args.place) idx (sym held ∙ (rw (← c.self.view_is) at e))).0 in
    rw (← c.self.view_is, ← (number ∙ at), c.rename.ensures) refl

pub returns-clause-places : goal.returns-clause-places
returns-clause-places c q =
    rw (← c.self.view_is) (same_places c.self.inside.cells c.rename.new.self c.self.inside.ports.tables c.self.invariant.tied (tied_after c) q)

pub returns-clause-hold : goal.returns-clause-hold
returns-clause-hold c = let inv = invariant_of-self c in IsHold-stored _ _ inv.low inv.high inv.tables inv.once inv.tied
