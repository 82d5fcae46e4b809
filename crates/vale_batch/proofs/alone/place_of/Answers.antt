use Rattle.std.proofs.Common.{◌∙◌, sym}
use Rattle.vale_batch.proofs.Ranks.{stands-there, none-there}
use Rattle.vale_batch.proofs.alone.place_of.Goals as goal

pub returns-then-stands_at : goal.returns-then-stands_at
returns-then-stands_at c =
    let there = stands-there c.args.to.0 c.rank_of-at.result c.args.all.now.items (sym c.stands_at.ensures ∙ c.if-stands_at.true) in
    record { within = there.0; found = there.1; none = tt }

pub returns-else-stands_at-clause-none : goal.returns-else-stands_at-clause-none
returns-else-stands_at-clause-none c =
    none-there c.args.to.0 c.rank_of-at.result c.args.all.now.items c.requires c.rank_of-at.ensures.point (sym c.stands_at.ensures ∙ c.if-stands_at.false)
