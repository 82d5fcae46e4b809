use Rattle.std.proofs.Common.{refl}
use Rattle.std.specs.Prelude.{Ok}
use Rattle.vale_entry.specs.declared.entry.Ask.TheVariants.{Finish}
use Rattle.vale_entry.specs.Closing.{shutting_port}
use Rattle.vale_book.specs.Recorded.{standing}
use Rattle.vale_serve.specs.Joined.{IsOwner}
use Rattle.vale_serve.proofs.Asked.{OwnerAt, owner-at, acted, asks-at}
use Rattle.vale_serve.proofs.asking.finish_at.Goals as goal

pub finish-requires : goal.finish-requires
finish-requires c =
    let b = c.args.book.now in
    let o : IsOwner c.args.users.now.items (shutting_port (standing b).world.ports c.args.port.0) c.in_ok-seen.seen c.in_ok-seen.place = rw c.deref.ensures.value at c.in_ok-seen.ensures in
    asks-at b c.args.users.now.items (shutting_port (standing b).world.ports c.args.port.0) c.in_ok-seen.seen c.in_ok-seen.place c.index_mut.result.now c.requires o c.index_mut.ensures.value

pub returns-clause-kept : goal.returns-clause-kept
returns-clause-kept c =
    let b = c.args.book.now in
    let o : IsOwner c.args.users.now.items (shutting_port (standing b).world.ports c.args.port.0) c.in_ok-seen.seen c.in_ok-seen.place = rw c.deref.ensures.value at c.in_ok-seen.ensures in
    let at : OwnerAt c.args.users.now.items (shutting_port (standing b).world.ports c.args.port.0) c.in_ok-seen.seen c.in_ok-seen.place c.index_mut.result.now =
    owner-at c.args.users.now.items (shutting_port (standing b).world.ports c.args.port.0) c.in_ok-seen.seen c.in_ok-seen.place c.index_mut.result.now o c.index_mut.ensures.value in
    acted b c.finish.new.book c.args.users.now.items c.in_ok-seen.place c.index_mut.result.now c.finish.new.user (Finish c.args.port c.args.bufs.now c.args.chain) (Ok c.finish.result) c.requires at.here
    c.finish.ensures.id c.finish.ensures.kept c.finish.ensures.served refl refl at.asker
