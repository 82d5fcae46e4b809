use Rattle.std.proofs.Common.{refl}
use Rattle.nm_types.specs.declared.fault.StepFault.{StepFault}
use Rattle.vale_entry.specs.declared.entry.Ask.TheVariants.{Reset}
use Rattle.vale_fabric.proofs.Acting.{acts-on, acts-ok, may-go, answers-on, refuses}
use Rattle.vale_fabric.proofs.Lent.{as-lent}
use Rattle.vale_book.proofs.Said.{said-by, reset-said}
use Rattle.vale_fabric.proofs.Making.{enabled-now, step-now}
use Rattle.vale_fabric.proofs.fabric.Fabric.reset.Goals as goal

pub reset-noted-requires : goal.reset-noted-requires
reset-noted-requires g c = enabled-now c.requires.may (as-lent c.deref_mut.ensures.value c.take-book.ensures.taken)

pub give-requires-clause-goes : goal.give-requires-clause-goes
give-requires-clause-goes g c =
    let taken = (as-lent c.deref_mut.ensures.value c.take-book.ensures.taken) in
    let e = c.reset-noted.ensures in
    may-go taken c.is_ok.ensures.value c.requires.may refl (acts-ok c.deref_mut.result.now c.reset-noted.new.self (Reset c.args.port c.args.side c.args.fault.now) c.reset-noted.result (acts-on c.deref_mut.result.now c.reset-noted.new.self (Reset c.args.port c.args.side c.args.fault.now) c.reset-noted.result (step-now c.requires.may taken tt) e.made e.room) e.err)

pub returns-clause-made : goal.returns-clause-made
returns-clause-made g c =
    let taken = (as-lent c.deref_mut.ensures.value c.take-book.ensures.taken) in
    let steps = step-now c.requires.may taken tt in
    answers-on (Reset c.args.port c.args.side c.args.fault.now) taken c.give.ensures.back c.reset-noted.result (acts-on c.deref_mut.result.now c.reset-noted.new.self (Reset c.args.port c.args.side c.args.fault.now) c.reset-noted.result steps c.reset-noted.ensures.made c.reset-noted.ensures.room) (said-by steps (reset-said steps))

pub returns-clause-full : goal.returns-clause-full
returns-clause-full g c = refuses (Reset c.args.port c.args.side c.args.fault.now) (as-lent c.deref_mut.ensures.value c.take-book.ensures.taken) c.give.ensures.back c.reset-noted.result (λ (fault : StepFault). fault) c.reset-noted.ensures.err c.reset-noted.ensures.full
