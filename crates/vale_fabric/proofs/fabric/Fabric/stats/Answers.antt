use Rattle.std.proofs.Common.{refl}
use Rattle.nm_types.specs.declared.fault.StepFault.{StepFault}
use Rattle.vale_entry.specs.declared.entry.Reply.TheVariants.{Counted}
use Rattle.vale_entry.specs.declared.entry.Ask.TheVariants.{Stat}
use Rattle.vale_fabric.proofs.Acting.{Tells, goes-told, answers-told, refuses}
use Rattle.vale_fabric.proofs.Lent.{as-lent}
use Rattle.vale_fabric.proofs.Making.{enabled-now}
use Rattle.vale_fabric.proofs.fabric.Fabric.stats.Given as given
use Rattle.vale_fabric.proofs.fabric.Fabric.stats.Goals.{After-stats-counts}
use Rattle.vale_fabric.proofs.fabric.Fabric.stats.Goals as goal

told : (g : given.Over) (c : After-stats-counts g) → Tells c.deref_mut.result.now c.stats-counts.new.self (Stat c.args.port) Counted c.stats-counts.result
told g c = let e = c.stats-counts.ensures in record { said = e.said; made = e.made; room = e.room; same = e.err }

pub stats-counts-requires : goal.stats-counts-requires
stats-counts-requires g c = enabled-now c.requires.may (as-lent c.deref_mut.ensures.value c.take-book.ensures.taken)

pub give-requires-clause-goes : goal.give-requires-clause-goes
give-requires-clause-goes g c = goes-told (as-lent c.deref_mut.ensures.value c.take-book.ensures.taken) c.stats-counts.result c.is_ok.ensures.value c.requires.may refl (told g (goal.at.give-requires-clause-goes g c).After-stats-counts)

pub returns-clause-made : goal.returns-clause-made
returns-clause-made g c = answers-told (Stat c.args.port) (as-lent c.deref_mut.ensures.value c.take-book.ensures.taken) c.give.ensures.back c.stats-counts.result (told g (goal.at.returns-clause-made g c).After-stats-counts)

pub returns-clause-full : goal.returns-clause-full
returns-clause-full g c = refuses (Stat c.args.port) (as-lent c.deref_mut.ensures.value c.take-book.ensures.taken) c.give.ensures.back c.stats-counts.result (λ (fault : StepFault). fault) c.stats-counts.ensures.err c.stats-counts.ensures.full
