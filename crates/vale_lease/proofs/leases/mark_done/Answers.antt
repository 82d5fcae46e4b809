use Rattle.std.proofs.lemmas.Bool.{both_ways}
use Rattle.vale_lease.specs.Leases.{is_there}
use Rattle.vale_lease.proofs.LeaseLemmas.{out_there, none_there, found_at, set-completed}
use Rattle.vale_lease.proofs.leases.mark_done.Goals as goal

pub unreachable-requires : goal.unreachable-requires
unreachable-requires c =
    let items = c.args.leases.now.items in
    let there = out_there c.args.id.0 items c.requires.out in
    both_ways (is_there c.args.id.0 items) (none_there c.args.id.0 items c.in-None.ensures.none) there

pub returns-clause-items : goal.returns-clause-items
returns-clause-items c =
    let items = c.args.leases.now.items in
    let marked = c.index_mut.result.now in
    let found = found_at c.args.id.0 items c.in-Some.at marked c.in-Some.ensures.within c.in-Some.ensures.found in
    let done = set-completed items c.args.id.0 c.in-Some.at marked c.requires.leases c.in-Some.ensures.within found in
    rw (← c.index_mut.ensures.value) at done
