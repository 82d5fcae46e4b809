use Rattle.std.proofs.Common.{◌<◌, length, arith}
use Rattle.nm_hold.specs.Sparse.{standings_in}
use Rattle.nm_hold.proofs.Owned.{standings_long}
use Rattle.nm_hold.proofs.Owning.{position}
use Rattle.nm_hold.proofs.cells.position_of.Goals as goal

pub given-requires : goal.given-requires
given-requires c =
    let p = position c.args.at.now (standings_in c.args.held.now) c.args.idx c.requires in
    omega (arith, p.number)

pub returns : goal.returns
returns c =
    let p = position c.args.at.now (standings_in c.args.held.now) c.args.idx c.requires in
    let within : p.k < length c.args.held.now = omega (arith, p.within, standings_long c.args.held.now) in
    record {
      number = omega (arith, c.given.ensures, p.number);
      within = omega (arith, c.given.ensures, p.number, within);
    }
