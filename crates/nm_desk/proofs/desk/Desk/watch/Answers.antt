use Rattle.nm_desk.proofs.Watched.{enabled, watched-by, unwatched-by}
use Rattle.nm_desk.proofs.desk.Desk.watch.Goals as goal

pub watch-requires : goal.watch-requires
watch-requires c = enabled c.args.book.now c.args.self.now c.args.monitor c.args.target.now c.args.sides c.requires.desk c.requires.is_open c.requires.monitor c.requires.target

pub returns-clause-watched : goal.returns-clause-watched
returns-clause-watched c = watched-by c.args.book.now c.args.self.now c.args.monitor c.args.target.now c.args.sides c.requires.desk c.requires.is_open c.requires.monitor c.requires.target c.watch.new.self c.watch.result c.watch.ensures.watched

pub returns-clause-unwatched : goal.returns-clause-unwatched
returns-clause-unwatched c = unwatched-by c.args.book.now c.args.self.now c.args.monitor c.args.target.now c.args.sides c.requires.desk c.requires.is_open c.requires.monitor c.requires.target c.watch.new.self c.watch.result c.watch.ensures.unwatched
