use Rattle.std.proofs.Common.{◌+◌, arith}
use Rattle.nm_types.specs.declared.id.LeaseId.{LeaseId}
use Rattle.vale_steps.proofs.Leasing.{given-few}
use Rattle.vale_steps.proofs.granting.give.Goals as goal

pub overflow_sub-full : goal.overflow_sub-full
overflow_sub-full c =
    let id : LeaseId = record { 0 = c.len.result + 1 } in
    let some = given-few c.grant_at-lease.result id c.args.want.sizes c.args.ports.now.items c.args.place c.requires.place c.grant_at-lease.ensures.lease in
    omega (arith, some, c.given_by-given.ensures, c.len-count.ensures)

pub returns-clause-full : goal.returns-clause-full
returns-clause-full c =
    let id : LeaseId = record { 0 = c.len.result + 1 } in
    let some = given-few c.grant_at-lease.result id c.args.want.sizes c.args.ports.now.items c.args.place c.requires.place c.grant_at-lease.ensures.lease in
    omega (arith, some, c.given_by-given.ensures, c.len-count.ensures)

pub returns-clause-some : goal.returns-clause-some
returns-clause-some c = rw (← c.len.ensures.len) c.grant_at-lease.ensures.some
