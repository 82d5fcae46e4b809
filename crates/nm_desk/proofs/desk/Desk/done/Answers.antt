use Rattle.nm_desk.proofs.Grants.{fills, completed}
use Rattle.nm_desk.proofs.desk.Desk.done.Goals as goal

pub done-requires-clause-filled : goal.done-requires-clause-filled
done-requires-clause-filled c = fills c.args.book.now c.args.book.now c.args.self.now c.args.lease c.requires.desk c.requires.filled

pub returns : goal.returns
returns c = completed c.args.book.now c.done.new.self c.args.self.now c.args.lease c.requires.desk c.requires.filled c.done.ensures.made c.done.ensures.room
