use Rattle.std.proofs.Common.{◌∙◌}
use Rattle.vale_entry.specs.World.{open_port}
use Rattle.vale_book.specs.Reading.{read_ask}
use Rattle.vale_book.specs.Recorded.{standing}
use Rattle.vale_serve.proofs.Acting.{unserved}
use Rattle.vale_serve.proofs.Asked.{owner-at, acted, asks-at}
use Rattle.vale_serve.proofs.PortReads.{read-plain, read-missing, read-stays, read-enters, read-whose}
use Rattle.vale_serve.proofs.asking.read_at.Goals as goal

pub read-requires : goal.read-requires
read-requires c =
    asks-at c.args.book.now c.args.users.now.items (open_port (standing c.args.book.now).world.ports c.args.port.0) c.in-Some.seen c.in-Some.place c.index_mut.result.now c.requires
    (rw c.deref.ensures.value at c.in-Some.ensures) c.index_mut.ensures.value

pub returns-in-None-clause-served : goal.returns-in-None-clause-served
returns-in-None-clause-served c =
    unserved c.args.book.now (read_ask c.args.is_pipe c.args.port c.args.back.now) (read-plain c.args.is_pipe c.args.port c.args.back.now)
    (read-missing (standing c.args.book.now) c.args.is_pipe c.args.port c.args.back.now c.in-None.ensures)

pub returns-in-Some-clause-kept : goal.returns-in-Some-clause-kept
returns-in-Some-clause-kept c =
    let at = owner-at c.args.users.now.items (open_port (standing c.args.book.now).world.ports c.args.port.0) c.in-Some.seen c.in-Some.place c.index_mut.result.now (rw c.deref.ensures.value at c.in-Some.ensures) c.index_mut.ensures.value in
    acted c.args.book.now c.read.new.book c.args.users.now.items c.in-Some.place c.index_mut.result.now c.read.new.user (read_ask c.args.is_pipe c.args.port c.args.back.now) c.read.result c.requires at.here
    c.read.ensures.id c.read.ensures.kept c.read.ensures.served (read-stays c.args.is_pipe c.args.port c.args.back.now) (read-enters c.args.is_pipe c.args.port c.args.back.now)
    (read-whose (standing c.args.book.now) c.args.is_pipe c.args.port c.args.back.now ∙ at.asker)
