use Rattle.std.proofs.Common.{arith}
use Rattle.nm_hold.specs.Sparse.{owners_in, standings_in}
use Rattle.nm_hold.proofs.Owned.{both_long, standings_long}
use Rattle.nm_hold.proofs.Owning.{held_before}
use Rattle.nm_hold.proofs.cells.Cells.prepare.Goals as goal

pub index_mut-requires : goal.index_mut-requires
index_mut-requires c =
    let held = c.self.inside.held.items in
    let before = held_before c.self.inside.at (owners_in held) (standings_in held) c.args.idx c.number-number.result c.self.invariant.owners (both_long held) c.number-number.ensures c.if-number-gt0.true in
    omega (arith, before.1, standings_long held)
