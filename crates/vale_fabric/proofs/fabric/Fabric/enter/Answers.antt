use Rattle.nm_types.specs.declared.fault.StepFault.{StepFault}
use Rattle.vale_entry.specs.declared.entry.Ask.TheVariants.{Enter}
use Rattle.vale_fabric.proofs.Acting.{acts-on, acts-ok, goes-back, answers-on, refuses}
use Rattle.vale_fabric.proofs.Lent.{as-lent}
use Rattle.vale_book.proofs.Said.{comes, came}
use Rattle.vale_fabric.proofs.Making.{adds-new}
use Rattle.vale_fabric.proofs.fabric.Fabric.enter.Goals as goal

pub give-requires-clause-goes : goal.give-requires-clause-goes
give-requires-clause-goes g c =
    let taken = (as-lent c.deref_mut.ensures.value c.take-book.ensures.taken) in
    let e = c.enter-entered.ensures in
    let acts = acts-on c.deref_mut.result.now c.enter-entered.new.self (Enter c.args.user) c.enter-entered.result (comes c.deref_mut.result.now c.args.user e.fits) e.made e.room in
    rw c.is_ok.ensures.value (goes-back taken _ (λ a. adds-new taken e.fits a.grown) (acts-ok c.deref_mut.result.now c.enter-entered.new.self (Enter c.args.user) c.enter-entered.result acts e.err))

pub returns-clause-made : goal.returns-clause-made
returns-clause-made g c =
    let e = c.enter-entered.ensures in
    let acts = acts-on c.deref_mut.result.now c.enter-entered.new.self (Enter c.args.user) c.enter-entered.result (comes c.deref_mut.result.now c.args.user e.fits) e.made e.room in
    answers-on (Enter c.args.user) (as-lent c.deref_mut.ensures.value c.take-book.ensures.taken) c.give.ensures.back c.enter-entered.result acts (came c.deref_mut.result.now c.args.user e.fits)

pub returns-clause-full : goal.returns-clause-full
returns-clause-full g c = refuses (Enter c.args.user) (as-lent c.deref_mut.ensures.value c.take-book.ensures.taken) c.give.ensures.back c.enter-entered.result (λ (fault : StepFault). fault) c.enter-entered.ensures.err c.enter-entered.ensures.full
