use Rattle.std.proofs.Common.{refl, sym, subst, IfOk}
use Rattle.nm_types.specs.declared.fault.StepFault.{StepFault}
use Rattle.vale_entry.specs.declared.entry.Reply.{Reply}
use Rattle.vale_entry.specs.declared.entry.Reply.TheVariants.{Offered}
use Rattle.vale_parts.specs.Batches.{dests_wanted}
use Rattle.vale_port.specs.Kept.{bytes_of}
use Rattle.vale_book.specs.Offering.{OffersState}
use Rattle.vale_book.specs.Recorded.{Recorded, standing}
use Rattle.vale_book.specs.Sending.{IsSent}
use Rattle.vale_entry.specs.declared.entry.Ask.TheVariants.{Send}
use Rattle.vale_fabric.proofs.Acting.{Acts, Tells, acts-told, acted, if-acted, goes-told, answers-told, refuses}
use Rattle.vale_fabric.proofs.AtHand.{hand-on, low-pool, sends-settled, sends-keep}
use Rattle.vale_fabric.proofs.Lent.{as-lent}
use Rattle.vale_fabric.proofs.Making.{enabled-now}
use Rattle.vale_fabric.proofs.Speaking.{speaks-on}
use Rattle.vale_fabric.proofs.fabric.Fabric.send_compared.Given as given
use Rattle.vale_fabric.proofs.fabric.Fabric.send_compared.Goals.{After-give, After-send_compared-sent}
use Rattle.vale_fabric.proofs.fabric.Fabric.send_compared.Goals as goal

abbrev reply : OffersState → Reply
reply o = Offered o.short o.lone (dests_wanted o.wants)

told : (g : given.Over) (c : After-send_compared-sent g) → Tells c.deref_mut.result.now c.send_compared-sent.new.self (Send c.args.port c.args.batch.now) reply c.send_compared-sent.result
told g c = let e = c.send_compared-sent.ensures in record { said = e.said; made = e.made; room = e.room; same = e.err }

-- what follows from offers that were sent
if-sent : (g : given.Over) (c : After-give g) {Q : OffersState → Type 0}
    → ((o : OffersState) → Acts c.deref_mut.result.now c.send_compared-sent.new.self (Send c.args.port c.args.batch.now) → IsSent c.send_compared-sent.new.self c.args.batch.now o → Q o) → IfOk c.send_compared-sent.result Q
if-sent g c follows =
    if-acted (as-lent c.deref_mut.ensures.value c.take-book.ensures.taken) c.give.ensures.back c.send_compared-sent.result
    (acts-told c.deref_mut.result.now c.send_compared-sent.new.self (Send c.args.port c.args.batch.now) c.send_compared-sent.result (told g (goal.at.After-give g c).After-send_compared-sent)) c.send_compared-sent.ensures.offers follows

pub send_compared-sent-requires : goal.send_compared-sent-requires
send_compared-sent-requires g c = enabled-now c.requires.may (as-lent c.deref_mut.ensures.value c.take-book.ensures.taken)

pub give-requires-clause-goes : goal.give-requires-clause-goes
give-requires-clause-goes g c = goes-told (as-lent c.deref_mut.ensures.value c.take-book.ensures.taken) c.send_compared-sent.result c.is_ok.ensures.value c.requires.may refl (told g (goal.at.give-requires-clause-goes g c).After-send_compared-sent)

pub returns-clause-made : goal.returns-clause-made
returns-clause-made g c = answers-told (Send c.args.port c.args.batch.now) (as-lent c.deref_mut.ensures.value c.take-book.ensures.taken) c.give.ensures.back c.send_compared-sent.result (told g (goal.at.returns-clause-made g c).After-send_compared-sent)

pub returns-clause-offers : goal.returns-clause-offers
returns-clause-offers g c =
    if-sent g (goal.at.returns-clause-offers g c).After-give
    (λ o acts sent. subst (λ (new : Recorded). IsSent new c.args.batch.now o) (sym (acted (as-lent c.deref_mut.ensures.value c.take-book.ensures.taken) c.give.ensures.back acts).now) sent)

pub returns-clause-speaks : goal.returns-clause-speaks
returns-clause-speaks g c =
    if-sent g (goal.at.returns-clause-speaks g c).After-give
    (λ o acts sent some. speaks-on o c.requires.may (as-lent c.deref_mut.ensures.value c.take-book.ensures.taken) refl acts c.give.ensures.back sent.stand sent.entry some)

pub returns-clause-hand : goal.returns-clause-hand
returns-clause-hand g c =
    let frames = c.args.batch.now in
    if-sent g (goal.at.returns-clause-hand g c).After-give
    (λ o acts sent some. hand-on o (bytes_of frames) c.requires.may (low-pool c.args.self.now) (as-lent c.deref_mut.ensures.value c.take-book.ensures.taken) refl acts c.give.ensures.back
    (record { frames = frames; stand = record { stand = sent.stand; frames_are = sent.frames_are }; bytes_are = refl }) sent.entry
    (sends-settled c.requires.may.session c.args.port frames) (sends-keep (standing c.deref_mut.result.now) c.args.port frames acts.steps.makes.reply) some)

pub returns-clause-full : goal.returns-clause-full
returns-clause-full g c = refuses (Send c.args.port c.args.batch.now) (as-lent c.deref_mut.ensures.value c.take-book.ensures.taken) c.give.ensures.back c.send_compared-sent.result (λ (fault : StepFault). fault) c.send_compared-sent.ensures.err c.send_compared-sent.ensures.full
