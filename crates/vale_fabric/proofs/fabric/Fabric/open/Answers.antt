use Rattle.std.proofs.Common.{refl}
use Rattle.std.proofs.lemmas.Result.{IfErr-weaker, on_ok_weaker}
use Rattle.vale_entry.specs.Transcript.{is_refusal}
use Rattle.vale_entry.specs.declared.entry.Ask.{Ask}
use Rattle.vale_entry.specs.declared.entry.Ask.TheVariants.{Open}
use Rattle.vale_entry.specs.declared.entry.Reply.TheVariants.{Opened}
use Rattle.vale_fabric.specs.Steps.{is_made}
use Rattle.vale_fabric.proofs.Acting.{ActsIf, acts-as, acts-made, may-go, answers-as}
use Rattle.vale_fabric.proofs.Lent.{as-lent}
use Rattle.vale_fabric.proofs.Making.{enabled-now}
use Rattle.vale_fabric.proofs.Refusals.{opens-act, opens-not, hands-on}
use Rattle.vale_fabric.proofs.fabric.Fabric.open.Given as given
use Rattle.vale_fabric.proofs.fabric.Fabric.open.Goals.{After-open-opened}
use Rattle.vale_fabric.proofs.fabric.Fabric.open.Goals as goal

did : (g : given.Over) (c : After-open-opened g) → ActsIf (is_made is_refusal c.open-opened.result) c.deref_mut.result.now c.open-opened.new.self (Open c.args.session c.args.name.now c.args.tx c.args.rx c.args.extra)
did g c =
    let r = c.open-opened.result in
    let e = c.open-opened.ensures in
    let ask : Ask = Open c.args.session c.args.name.now c.args.tx c.args.rx c.args.extra in
    acts-made c.deref_mut.result.now c.open-opened.new.self ask is_refusal r (on_ok_weaker r (acts-as Opened) e.made) (IfErr-weaker r _ _ (opens-act c.deref_mut.result.now c.open-opened.new.self ask) e.unopened)

pub open-opened-requires : goal.open-opened-requires
open-opened-requires g c = enabled-now c.requires.may (as-lent c.deref_mut.ensures.value c.take-book.ensures.taken)

pub give-requires-clause-goes : goal.give-requires-clause-goes
give-requires-clause-goes g c = may-go (as-lent c.deref_mut.ensures.value c.take-book.ensures.taken) c.is_recorded.ensures c.requires.may refl (did g (goal.at.give-requires-clause-goes g c).After-open-opened)

pub returns-clause-made : goal.returns-clause-made
returns-clause-made g c = on_ok_weaker c.open-opened.result (answers-as (as-lent c.deref_mut.ensures.value c.take-book.ensures.taken) c.give.ensures.back Opened) c.open-opened.ensures.made

pub returns-clause-hands : goal.returns-clause-hands
returns-clause-hands g c =
    let e = c.open-opened.ensures in
    hands-on (Open c.args.session c.args.name.now c.args.tx c.args.rx c.args.extra) c.args.tx c.args.rx c.args.extra c.open-opened.result (as-lent c.deref_mut.ensures.value c.take-book.ensures.taken) c.give.ensures.back e.made e.tx e.rx e.extra e.region

pub returns-clause-unopened : goal.returns-clause-unopened
returns-clause-unopened g c =
    let ask : Ask = Open c.args.session c.args.name.now c.args.tx c.args.rx c.args.extra in
    IfErr-weaker c.open-opened.result _ _ (λ fault. opens-not ask fault (as-lent c.deref_mut.ensures.value c.take-book.ensures.taken) c.give.ensures.back) c.open-opened.ensures.unopened
