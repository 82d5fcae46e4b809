use Rattle.std.proofs.Common.{List, length, ap, arith}
use Rattle.vale_batch.specs.declared.alone.Placed.{Placed}
use Rattle.vale_batch.specs.Wants.{owned}
use Rattle.vale_batch.proofs.Merging.{count-merged}
use Rattle.vale_batch.proofs.lists.count_of.Goals as goal

pub returns : goal.returns
returns c =
    let own = c.args.own.now in
    let counted = count-merged c.args.from c.args.flooded.now (owned own) in
    let frames = c.len.ensures in
    let lent = ap (λ (ps : List Placed). length ps) c.flooded_to.ensures in
    omega (arith, counted, frames, lent)
