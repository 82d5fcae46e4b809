use Rattle.std.proofs.Common.{ℕ, ◌≡◌, true, List, Some, sym, ◌∙◌, subst, rules}
use Rattle.std.specs.Prelude.{Ok}
use Rattle.vale_entry.specs.declared.entry.Ask.TheVariants.{Finish}
use Rattle.vale_entry.specs.declared.entry.Reply.{Reply}
use Rattle.vale_entry.specs.declared.entry.Reply.TheVariants.{Unread}
use Rattle.vale_entry.specs.Legal.{fits_chain, reply_to, IsEnabled}
use Rattle.vale_book.specs.Recorded.{standing, after_ask}
use Rattle.vale_serve.specs.Serving.{IsServed}
use Rattle.vale_serve.proofs.Finishes.{chain-fits, unfinished, waits, enabled, has-room, gone-kept}
use Rattle.vale_serve.proofs.finishing.finish.Goals as goal

pub returns-then-not-can_finish-clause-served : goal.returns-then-not-can_finish-clause-served
returns-then-not-can_finish-clause-served c =
    let fits : fits_chain c.args.chain ≡ true = search (rules, chain-fits) in
    unfinished c.args.book.now c.args.user.now c.args.port c.args.seen c.args.bufs.now c.args.chain c.requires.legal c.requires.user c.requires.asker fits (sym c.can_finish.ensures ∙ c.if-not-can_finish.true)

pub returns-in-Some-clause-served : goal.returns-in-Some-clause-served
returns-in-Some-clause-served c =
    let fits : fits_chain c.args.chain ≡ true = search (rules, chain-fits) in
    let can = sym c.can_finish.ensures ∙ c.if-not-can_finish.false in
    let told = waits c.args.book.now c.args.user.now c.args.port c.args.seen c.args.bufs.now c.args.chain c.requires.legal c.requires.user c.requires.asker fits can c.in-Some.ensures.some.0 in
    subst (λ (r : Reply). IsServed c.args.book.now c.args.book.now (Finish c.args.port c.args.bufs.now c.args.chain) (Ok (Some r))) (sym c.in-Some.ensures.some.1) told

pub take_for_port-bufs-requires-clause-room : goal.take_for_port-bufs-requires-clause-room
take_for_port-bufs-requires-clause-room c =
    let fits : fits_chain c.args.chain ≡ true = search (rules, chain-fits) in
    has-room c.args.book.now c.args.user.now c.args.port c.args.seen c.args.bufs.now c.args.chain c.requires.legal c.requires.user c.requires.asker fits (sym c.can_finish.ensures ∙ c.if-not-can_finish.false)

pub finish-requires-clause-enabled : goal.finish-requires-clause-enabled
finish-requires-clause-enabled c =
    let fits : fits_chain c.args.chain ≡ true = search (rules, chain-fits) in
    subst (λ (ns : List ℕ). IsEnabled (standing c.args.book.now) (Finish c.args.port ns c.args.chain)) (sym c.take_for_port-bufs.ensures.bufs.named_is)
    (enabled c.args.book.now c.args.user.now c.args.port c.args.seen c.args.bufs.now c.args.chain c.requires.legal c.requires.user c.requires.asker fits (sym c.can_finish.ensures ∙ c.if-not-can_finish.false))

pub finish-requires-clause-region : goal.finish-requires-clause-region
finish-requires-clause-region c = c.take_for_port-bufs.ensures.bufs.taken_of c.args.book.now.region c.requires.user.region_is

pub returns-clause-kept : goal.returns-clause-kept
returns-clause-kept c =
    let b = c.args.book.now in
    let fits : fits_chain c.args.chain ≡ true = search (rules, chain-fits) in
    let named = c.take_for_port-bufs.ensures.bufs.named_is in
    let made = subst (λ (ns : List ℕ). c.finish.new.self ≡ after_ask b (Finish c.args.port ns c.args.chain)) named c.in-Ok.ensures.made in
    let said = subst (λ (ns : List ℕ). reply_to (standing b) (Finish c.args.port ns c.args.chain) ≡ Some (Unread c.in-Ok.count)) named c.in-Ok.ensures.said in
    gone-kept b c.args.user.now c.args.port c.args.seen c.args.bufs.now c.args.chain c.requires.legal c.requires.user c.requires.asker fits (sym c.can_finish.ensures ∙ c.if-not-can_finish.false)
    c.finish.new.self c.take_for_port-bufs.new.user c.take_for_port-bufs.result.items c.in-Ok.count c.take_for_port-bufs.ensures made said
