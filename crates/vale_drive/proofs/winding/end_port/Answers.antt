use Rattle.std.proofs.Common.{sym, ◌∙◌}
use Rattle.vale_entry.specs.World.{open_port}
use Rattle.vale_book.specs.Recorded.{standing}
use Rattle.vale_drive.proofs.NextPorts.{shuts-next, seen-some, seen-none, some-port}
use Rattle.vale_drive.proofs.winding.end_port.Goals as goal

pub returns-then-is_some-clause-made : goal.returns-then-is_some-clause-made
returns-then-is_some-clause-made c =
    let b = c.args.book.now in
    shuts-next b c.shut_at.new.book c.args.users.now.items c.args.port c.shut_at.result c.requires.users c.requires.quiet c.requires.first
    (seen-some (open_port (standing b).world.ports c.args.port.0) c.open_port.result c.open_port.ensures (sym c.is_some.ensures ∙ c.if-is_some.true))
    c.shut_at.ensures.served

pub unreachable-requires : goal.unreachable-requires
unreachable-requires c =
    let b = c.args.book.now in
    some-port b c.args.users.now.items c.args.port c.requires.users c.requires.quiet c.requires.first
    (seen-none (open_port (standing b).world.ports c.args.port.0) c.open_port.result c.open_port.ensures (sym c.is_some.ensures ∙ c.if-is_some.false))
    c.in-None.ensures

pub finish_with-requires : goal.finish_with-requires
finish_with-requires c = record {
  users = c.requires.users;
  quiet = c.requires.quiet;
  first = c.requires.first;
  shut = seen-none (open_port (standing c.args.book.now).world.ports c.args.port.0) c.open_port.result c.open_port.ensures (sym c.is_some.ensures ∙ c.if-is_some.false);
  owner = rw (c.deref-2.ensures.value) at c.in-Some.ensures;
}
