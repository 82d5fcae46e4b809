use Rattle.std.proofs.Common.{refl, ap}
use Rattle.vale_entry.specs.declared.entry.Ask.TheVariants.{Put}
use Rattle.vale_entry.specs.World.{open_port}
use Rattle.vale_book.specs.Recorded.{standing}
use Rattle.vale_serve.proofs.Asked.{owner-at, acted, asks-at}
use Rattle.vale_entry.specs.Legal.{is_met, can_put}
use Rattle.vale_serve.proofs.Acting.{unserved}
use Rattle.vale_serve.proofs.asking.put_at.Goals as goal

pub put-requires : goal.put-requires
put-requires c =
    asks-at c.args.book.now c.args.users.now.items (open_port (standing c.args.book.now).world.ports c.args.port.0) c.in-Some.seen c.in-Some.place c.index_mut.result.now c.requires
    (rw c.deref.ensures.value at c.in-Some.ensures) c.index_mut.ensures.value

pub returns-in-None-clause-served : goal.returns-in-None-clause-served
returns-in-None-clause-served c = unserved c.args.book.now (Put c.args.port c.args.offered.now) (λ s. refl) (ap (is_met (can_put (standing c.args.book.now) c.args.offered.now)) c.in-None.ensures)

pub returns-in-Some-clause-kept : goal.returns-in-Some-clause-kept
returns-in-Some-clause-kept c =
    let at = owner-at c.args.users.now.items (open_port (standing c.args.book.now).world.ports c.args.port.0) c.in-Some.seen c.in-Some.place c.index_mut.result.now (rw c.deref.ensures.value at c.in-Some.ensures) c.index_mut.ensures.value in
    acted c.args.book.now c.put.new.book c.args.users.now.items c.in-Some.place c.index_mut.result.now c.put.new.user (Put c.args.port c.args.offered.now) c.put.result c.requires at.here
    c.put.ensures.id c.put.ensures.kept c.put.ensures.served refl refl at.asker
