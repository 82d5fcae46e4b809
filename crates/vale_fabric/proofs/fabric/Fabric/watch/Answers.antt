use Rattle.std.proofs.Common.{refl}
use Rattle.std.proofs.lemmas.Result.{IfErr-weaker}
use Rattle.vale_entry.specs.declared.entry.Ask.{Ask}
use Rattle.vale_entry.specs.declared.entry.Ask.TheVariants.{Watch}
use Rattle.vale_entry.specs.declared.entry.Reply.TheVariants.{Watching}
use Rattle.vale_fabric.specs.Ports.{is_said}
use Rattle.vale_fabric.specs.Steps.{is_made}
use Rattle.vale_fabric.proofs.Acting.{ActsIf, acts-each, acts-made, may-go, answers-each}
use Rattle.vale_fabric.proofs.Lent.{as-lent}
use Rattle.vale_fabric.proofs.Making.{enabled-now}
use Rattle.vale_fabric.proofs.Refusals.{watches-act, watches-not}
use Rattle.vale_fabric.proofs.fabric.Fabric.watch.Given as given
use Rattle.vale_fabric.proofs.fabric.Fabric.watch.Goals.{After-watch-watched}
use Rattle.vale_fabric.proofs.fabric.Fabric.watch.Goals as goal

did : (g : given.Over) (c : After-watch-watched g) → ActsIf (is_made is_said c.watch-watched.result) c.deref_mut.result.now c.watch-watched.new.self (Watch c.args.monitor c.args.target.now c.args.sides)
did g c =
    let r = c.watch-watched.result in
    let e = c.watch-watched.ensures in
    let ask : Ask = Watch c.args.monitor c.args.target.now c.args.sides in
    acts-made c.deref_mut.result.now c.watch-watched.new.self ask is_said r (acts-each c.deref_mut.result.now c.watch-watched.new.self ask Watching r e.watched) (IfErr-weaker r _ _ (watches-act c.deref_mut.result.now c.watch-watched.new.self ask) e.unwatched)

pub watch-watched-requires : goal.watch-watched-requires
watch-watched-requires g c = enabled-now c.requires.may (as-lent c.deref_mut.ensures.value c.take-book.ensures.taken)

pub give-requires-clause-goes : goal.give-requires-clause-goes
give-requires-clause-goes g c = may-go (as-lent c.deref_mut.ensures.value c.take-book.ensures.taken) c.is_said.ensures c.requires.may refl (did g (goal.at.give-requires-clause-goes g c).After-watch-watched)

pub returns-clause-watched : goal.returns-clause-watched
returns-clause-watched g c = answers-each (Watch c.args.monitor c.args.target.now c.args.sides) (as-lent c.deref_mut.ensures.value c.take-book.ensures.taken) c.give.ensures.back Watching c.watch-watched.result c.watch-watched.ensures.watched

pub returns-clause-unwatched : goal.returns-clause-unwatched
returns-clause-unwatched g c =
    let ask : Ask = Watch c.args.monitor c.args.target.now c.args.sides in
    IfErr-weaker c.watch-watched.result _ _ (λ fault. watches-not ask fault (as-lent c.deref_mut.ensures.value c.take-book.ensures.taken) c.give.ensures.back) c.watch-watched.ensures.unwatched
