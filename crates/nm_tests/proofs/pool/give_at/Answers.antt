use Rattle.nm_pool.proofs.Out.{any_out_can_be_given, giving_loses_none}
use Rattle.nm_tests.proofs.pool.give_at.Goals as goal

pub give-requires : goal.give-requires
give-requires c =
    let asked = any_out_can_be_given c.args.region.now c.args.out.now.items c.args.pool.now c.args.at c.remove.result c.requires.there c.remove.ensures.value c.requires.out in
    record { index = asked.index; other = asked.other }

pub returns-clause-out : goal.returns-clause-out
returns-clause-out c =
    let given = giving_loses_none c.args.region.now c.args.out.now.items c.args.pool.now c.args.at c.remove.result c.requires.there c.remove.ensures.value c.requires.out in
    rw (c.remove.ensures.items, c.give.ensures) given
