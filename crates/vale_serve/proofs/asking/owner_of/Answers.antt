use Rattle.vale_entry.specs.World.{is_open_at, open_port}
use Rattle.vale_book.specs.Recorded.{standing}
use Rattle.vale_serve.proofs.Asked.{never-missing}
use Rattle.vale_serve.proofs.asking.owner_of.Goals as goal

pub owner_seen-requires : goal.owner_seen-requires
owner_seen-requires c = never-missing c.args.book.now c.args.users.now (is_open_at c.args.port.0) c.open_port.result c.requires c.open_port.ensures

pub returns : goal.returns
returns c = c.owner_seen.ensures (open_port (standing c.args.book.now).world.ports c.args.port.0) c.open_port.ensures
