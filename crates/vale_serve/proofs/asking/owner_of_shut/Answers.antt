use Rattle.vale_entry.specs.Closing.{is_shutting_at, shutting_port}
use Rattle.vale_book.specs.Recorded.{standing}
use Rattle.vale_serve.proofs.Asked.{never-missing}
use Rattle.vale_serve.proofs.asking.owner_of_shut.Goals as goal

pub owner_seen-requires : goal.owner_seen-requires
owner_seen-requires c = never-missing c.args.book.now c.args.users.now (is_shutting_at c.args.port.0) c.shutting_port.result c.requires c.shutting_port.ensures

pub returns : goal.returns
returns c = c.owner_seen.ensures (shutting_port (standing c.args.book.now).world.ports c.args.port.0) c.shutting_port.ensures
