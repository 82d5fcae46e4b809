use Rattle.std.proofs.Common.{ℕ, slice_set, None, refl, ◌∙◌, ap}
use Rattle.std.proofs.lemmas.List.{length-set}
use Rattle.nm_hold.specs.Standings.{buf_in}
use Rattle.nm_hold.specs.Tables.{number_at}
use Rattle.nm_hold.specs.Holds.{cell_at}
use Rattle.nm_hold.proofs.Numbers.{ports_of-put}
use Rattle.nm_hold.proofs.Tied.{number_if-some, held-number}
use Rattle.nm_hold.proofs.Shown.{cell_there, IsHold-stored}
use Rattle.nm_hold.proofs.Steps.{Removed, removed, put_are_tables, removed_places}
use Rattle.nm_hold.proofs.hold.Hold.remove.Goals as goal
use Rattle.nm_hold.proofs.hold.Hold.remove.Goals.{After-take}

pub take-requires : goal.take-requires
take-requires c = cell_there c.self.inside.cells c.self.inside.ports.tables c.args.place c.replace-idx.result c.self.invariant.tied (rw (← c.self.view_is) at c.requires) c.replace-idx.ensures.number

-- what the going of the buffer leaves
gone : (c : After-take) → Removed c.self.inside.cells c.self.inside.ports.tables c.args.place c.replace-idx.result c.take.result
gone c = removed c.self.inside.cells c.self.inside.ports.tables c.args.place c.replace-idx.result c.take.result c.self.invariant.tables c.self.invariant.tied c.replace-idx.ensures.number c.take.ensures.buffer

pub invariant_of-self : goal.invariant_of-self
invariant_of-self c =
    let inv = c.self.invariant in
    let cells = c.self.inside.cells in
    let tables = c.self.inside.ports.tables in
    let f = gone (goal.at.invariant_of-self c).After-take in
    let same = c.replace-idx.ensures.tables in
    let after = c.take.ensures.cells in
    let count = length-set cells c.replace-idx.result None in
    record {
      low = rw (after, count) inv.low;
      high = rw (after, count) inv.high;
      tables = rw same (put_are_tables c.args.place 0 tables inv.tables);
      once = rw (same, ports_of-put c.args.place 0 tables) inv.once;
      tied = rw (same, after) f.tied;
    }

pub returns-clause-index : goal.returns-clause-index
returns-clause-index c =
    let inv = c.self.invariant in
    let f = gone (goal.at.returns-clause-index c).After-take in
    let held = held-number c.self.inside.cells c.self.inside.ports.tables c.args.place inv.tied in
    let idx = f.index ∙ c.replace-idx.ensures.number in
    rw (← c.self.view_is, idx) (held ∙ number_if-some (number_at c.self.inside.ports.tables c.args.place) f.some)

pub returns-clause-buffer : goal.returns-clause-buffer
returns-clause-buffer c =
    let f = gone (goal.at.returns-clause-buffer c).After-take in
    rw (← c.self.view_is) (ap (λ (n : ℕ). buf_in (cell_at c.self.inside.cells n)) f.index ∙ c.take.ensures.buffer)

pub returns-clause-cell : goal.returns-clause-cell
returns-clause-cell c =
    let f = gone (goal.at.returns-clause-cell c).After-take in
    let same = c.replace-idx.ensures.tables in
    let after = c.take.ensures.cells in
    rw (← c.self.view_is, same, after, ports_of-put c.args.place 0 c.self.inside.ports.tables, f.index) refl

pub returns-clause-places : goal.returns-clause-places
returns-clause-places c q =
    let inv = c.self.invariant in
    let cells = c.self.inside.cells in
    let f = gone (goal.at.returns-clause-places c).After-take in
    let after = c.take.ensures.cells in
    rw (← c.self.view_is, after) (removed_places cells (slice_set cells c.replace-idx.result None) c.self.inside.ports.tables c.args.place inv.tables inv.tied f.some f.tied q)

pub returns-clause-hold : goal.returns-clause-hold
returns-clause-hold c = let inv = invariant_of-self c in IsHold-stored _ _ inv.low inv.high inv.tables inv.once inv.tied
