use Rattle.std.proofs.Common.{arith}
use Rattle.nm_hold.specs.Sparse.{owners_in, standings_in}
use Rattle.nm_hold.proofs.Owned.{both_long, standings_long}
use Rattle.nm_hold.proofs.Owning.{nothing_held}
use Rattle.nm_hold.proofs.cells.Cells.destroy.Goals as goal

pub destroy_empty-requires : goal.destroy_empty-requires
destroy_empty-requires c =
    let held = c.self.inside.held.items in
    let none = nothing_held c.self.inside.at (owners_in held) (standings_in held) c.self.invariant.owners (both_long held) (λ idx. rw (← c.self.view_is) at (c.requires idx)) in
    omega (arith, none, standings_long held)
