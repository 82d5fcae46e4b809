use Rattle.nm_io.proofs.Stores.{seen_replaced, seen_same}
use Rattle.nm_io.proofs.memory_shelf.MemoryShelf.add.Goals as goal

pub returns-in-Ok-clause-ok : goal.returns-in-Ok-clause-ok
returns-in-Ok-clause-ok c =
    rw (← c.self.view_is) (seen_replaced c.self.inside.stored.files c.replace.new.self.files c.args.name.now c.args.bytes.now c.in-Ok.ensures.ok)

pub returns-in-Err-clause-err : goal.returns-in-Err-clause-err
returns-in-Err-clause-err c =
    rw (← c.self.view_is) (seen_same c.self.inside.stored.files c.replace.new.self.files c.in-Err.ensures.err)
