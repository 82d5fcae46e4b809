use Rattle.std.proofs.Common.{◌<◌, ◌-◌, length, arith}
use Rattle.nm_pool.proofs.Out.{any_out_can_be_given, giving_loses_none}
use Rattle.bench.proofs.pool.give_last.Goals as goal

pub give-requires : goal.give-requires
give-requires c =
    let last = c.len-last.result - 1 in
    let within : last < length c.args.out.now.items = omega arith in
    let asked = any_out_can_be_given c.args.region.now c.args.out.now.items c.args.pool.now last c.remove.result within c.remove.ensures.value c.requires.out in
    record { index = asked.index; other = asked.other }

pub returns-clause-out : goal.returns-clause-out
returns-clause-out c =
    let last = c.len-last.result - 1 in
    let within : last < length c.args.out.now.items = omega arith in
    let given = giving_loses_none c.args.region.now c.args.out.now.items c.args.pool.now last c.remove.result within c.remove.ensures.value c.requires.out in
    rw (c.remove.ensures.items, c.give.ensures) given
