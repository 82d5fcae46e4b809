use Rattle.std.proofs.Common.{refl}
use Rattle.std.proofs.lemmas.Result.{IfOk-weaker, IfErr-weaker}
use Rattle.nm_region.specs.Buffers.{indices_of}
use Rattle.vale_entry.specs.declared.entry.Reply.TheVariants.{Unread}
use Rattle.vale_book.specs.Recorded.{standing}
use Rattle.vale_entry.specs.declared.entry.Ask.TheVariants.{Finish}
use Rattle.vale_fabric.proofs.Acting.{Tells, goes-told, answers-told}
use Rattle.vale_fabric.proofs.Lent.{as-lent}
use Rattle.vale_book.proofs.Said.{gone-said}
use Rattle.vale_fabric.proofs.Making.{enabled-now, waits-on}
use Rattle.vale_fabric.proofs.fabric.Fabric.finish.Given as given
use Rattle.vale_fabric.proofs.fabric.Fabric.finish.Goals.{After-finish-unread}
use Rattle.vale_fabric.proofs.fabric.Fabric.finish.Goals as goal

told : (g : given.Over) (c : After-finish-unread g) → Tells c.deref_mut.result.now c.finish-unread.new.self (Finish c.args.port (indices_of c.args.bufs.items) c.args.chain) Unread c.finish-unread.result
told g c =
    let e = c.finish-unread.ensures in
    let said = IfOk-weaker c.finish-unread.result _ _ (gone-said (standing c.deref_mut.result.now) c.args.port (indices_of c.args.bufs.items) c.args.chain) e.said in
    record { said = said; made = e.made; room = e.room; same = e.err }

pub finish-unread-requires-clause-enabled : goal.finish-unread-requires-clause-enabled
finish-unread-requires-clause-enabled g c = enabled-now c.requires.may (as-lent c.deref_mut.ensures.value c.take-book.ensures.taken)

pub give-requires-clause-goes : goal.give-requires-clause-goes
give-requires-clause-goes g c = goes-told (as-lent c.deref_mut.ensures.value c.take-book.ensures.taken) c.finish-unread.result c.is_ok.ensures.value c.requires.may refl (told g (goal.at.give-requires-clause-goes g c).After-finish-unread)

pub returns-clause-made : goal.returns-clause-made
returns-clause-made g c = answers-told (Finish c.args.port (indices_of c.args.bufs.items) c.args.chain) (as-lent c.deref_mut.ensures.value c.take-book.ensures.taken) c.give.ensures.back c.finish-unread.result (told g (goal.at.returns-clause-made g c).After-finish-unread)

pub returns-clause-waits : goal.returns-clause-waits
returns-clause-waits g c = waits-on (Finish c.args.port (indices_of c.args.bufs.items) c.args.chain) _ c.finish-unread.result (λ out. out.n) (as-lent c.deref_mut.ensures.value c.take-book.ensures.taken) c.finish-unread.ensures.err c.finish-unread.ensures.waits c.give.ensures.back

pub returns-clause-back : goal.returns-clause-back
returns-clause-back g c = IfErr-weaker c.finish-unread.result _ _ (λ out is. is.2) c.finish-unread.ensures.waits
