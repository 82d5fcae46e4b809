use Rattle.std.proofs.Common.{◌≡◌, ◌<◌, ◌-◌, ap, sym, ◌∙◌, arith}
use Rattle.nm_hold.specs.Sparse.{named_by, number_of, owners_in, standings_in}
use Rattle.nm_hold.proofs.Owned.{both_long, standings_long, standing_of}
use Rattle.nm_hold.proofs.Owning.{cell_named, held_before, standing_read}
use Rattle.nm_hold.proofs.cells.Cells.get.Goals as goal

pub returns-then-number-eq0 : goal.returns-then-number-eq0
returns-then-number-eq0 c =
    let none : number_of c.self.inside.at c.args.idx ≡ 0 = sym c.number-number.ensures ∙ c.if-number-eq0.true in
    let held = standings_in c.self.inside.held.items in
    rw (← c.self.view_is) (sym (cell_named c.self.inside.at held c.args.idx ∙ ap (named_by held) none))

pub index-requires : goal.index-requires
index-requires c =
    let some : 0 < c.number-number.result = omega arith in
    let held = c.self.inside.held.items in
    let before = held_before c.self.inside.at (owners_in held) (standings_in held) c.args.idx c.number-number.result c.self.invariant.owners (both_long held) c.number-number.ensures some in
    omega (arith, before.1, standings_long held)

pub returns-else-number-eq0 : goal.returns-else-number-eq0
returns-else-number-eq0 c =
    let some : 0 < c.number-number.result = omega arith in
    let at = c.self.inside.at in
    let held = c.self.inside.held.items in
    let before = held_before at (owners_in held) (standings_in held) c.args.idx c.number-number.result c.self.invariant.owners (both_long held) c.number-number.ensures some in
    rw (← c.self.view_is) (sym (standing_read at (standings_in held) c.args.idx (c.number-number.result - 1) c.index.result.now.standing before.0 before.1 (standing_of held (c.number-number.result - 1) c.index.result.now c.index.ensures)))
