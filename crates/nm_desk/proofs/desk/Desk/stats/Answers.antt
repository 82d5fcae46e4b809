use Rattle.nm_desk.proofs.OneStep.{may-enabled}
use Rattle.nm_desk.proofs.Plain.{may-stat, stat-answered}
use Rattle.vale_entry.specs.declared.entry.Ask.TheVariants.{Stat}
use Rattle.nm_desk.proofs.desk.Desk.stats.Goals as goal

pub stats-requires : goal.stats-requires
stats-requires c = may-enabled c.args.book.now c.args.self.now (Stat c.args.port) c.requires.desk (may-stat c.args.book.now c.args.self.now c.args.port c.requires.desk c.requires.is_open)

pub returns-clause-made : goal.returns-clause-made
returns-clause-made c = stat-answered c.args.book.now c.stats.new.self c.args.self.now c.args.port c.stats.result c.requires.desk c.requires.is_open c.stats.ensures.made c.stats.ensures.said c.stats.ensures.room
