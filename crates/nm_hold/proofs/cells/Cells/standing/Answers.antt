use Rattle.std.proofs.Common.{◌≡◌, ◌<◌, suc, length, arith}
use Rattle.nm_hold.specs.Sparse.{number_of, standings_in}
use Rattle.nm_hold.proofs.Owned.{standings_long, standing_of}
use Rattle.nm_hold.proofs.Owning.{standing_read}
use Rattle.nm_hold.proofs.cells.Cells.standing.Goals as goal

pub returns : goal.returns
returns c =
    let held = c.self.inside.held.items in
    let k = c.position_of-position.result in
    let number : number_of c.self.inside.at c.args.idx ≡ suc k = omega (arith, c.position_of-position.ensures.number) in
    let within : k < length (standings_in held) = omega (arith, c.position_of-position.ensures.within, standings_long held) in
    rw (← c.self.view_is) (standing_read c.self.inside.at (standings_in held) c.args.idx k c.index.result.now.standing number within (standing_of held k c.index.result.now c.index.ensures))
