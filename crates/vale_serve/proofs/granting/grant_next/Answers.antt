use Rattle.std.proofs.Common.{arith}
use Rattle.vale_serve.proofs.Granted.{can-grant, granted-kept}
use Rattle.vale_serve.proofs.granting.grant_next.Goals as goal

pub take_next-reply-requires : goal.take_next-reply-requires
take_next-reply-requires c = can-grant c.args.book.now c.args.user.now c.args.sent c.requires.legal c.requires.user.offers

pub add_lease-requires : goal.add_lease-requires
add_lease-requires c =
    let room = c.requires.user.lease_room in
    let some' = c.requires.user.offers.some in
    omega (arith, room, some')

pub returns-clause-kept : goal.returns-clause-kept
returns-clause-kept c =
    let e = c.take_next-reply.ensures in
    granted-kept c.args.book.now c.take_next-reply.new.book c.args.user.now c.add_lease.new.user c.keep.new.user c.args.sent c.take_next-reply.new.sent c.take_next-reply.result.0 c.take_next-reply.result.1
    c.requires.legal c.requires.user e c.add_lease.ensures c.keep.ensures
