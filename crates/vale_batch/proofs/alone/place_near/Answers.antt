use Rattle.std.proofs.Common.{◌∙◌, sym}
use Rattle.vale_batch.proofs.Ranks.{stands-there}
use Rattle.vale_batch.proofs.alone.place_near.Goals as goal

pub returns-then-stands_at : goal.returns-then-stands_at
returns-then-stands_at c =
    let there = stands-there c.args.to.0 c.args.near c.args.all.now.items (sym c.stands_at.ensures ∙ c.if-stands_at.true) in
    record { within = there.0; found = there.1; none = tt }
