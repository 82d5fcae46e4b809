use Rattle.std.proofs.Common.{◌≡◌, true, List, length, Some, refl, sym, ◌∙◌, ap, subst, arith, rules}
use Rattle.std.proofs.lemmas.List.{length-map}
use Rattle.vale_entry.specs.declared.entry.Ask.TheVariants.{Send}
use Rattle.vale_entry.specs.declared.entry.Dest.{Dest}
use Rattle.vale_entry.specs.declared.entry.Reply.{Reply}
use Rattle.vale_entry.specs.declared.entry.Reply.TheVariants.{Offered}
use Rattle.nm_types.specs.declared.id.SessionId.{SessionId}
use Rattle.vale_parts.specs.Batches.{dests_wanted, dest_wanted}
use Rattle.vale_book.specs.Recorded.{Recorded}
use Rattle.vale_serve.specs.Replies.{dests_in, last_dests}
use Rattle.vale_serve.specs.Users.{IsUser, is_settled_user}
use Rattle.vale_serve.proofs.Acting.{unserved, user-same, settled-same, last-told}
use Rattle.vale_serve.proofs.Sends.{can-send, send-refused, can-parts, few-wants, sent-kept, s}
use Rattle.vale_serve.proofs.sending.send.Goals as goal

pub returns-then-not-can_send-clause-served : goal.returns-then-not-can_send-clause-served
returns-then-not-can_send-clause-served c =
    unserved c.args.book.now (Send c.args.port c.args.batch.now) (λ s. refl)
    (can-send c.args.book.now c.args.user.now c.args.port c.args.seen c.args.batch.now c.requires.legal c.requires.user c.requires.asker ∙ (sym c.can_send.ensures ∙ c.if-not-can_send.true))

pub returns-in_err-frames-clause-served : goal.returns-in_err-frames-clause-served
returns-in_err-frames-clause-served c = search (rules, send-refused c.args.book.now c.args.user.now c.args.port c.args.seen c.args.batch.now c.requires.legal c.requires.user c.requires.asker (sym c.can_send.ensures ∙ c.if-not-can_send.false))

pub returns-in_err-reserve_leases-clause-served : goal.returns-in_err-reserve_leases-clause-served
returns-in_err-reserve_leases-clause-served c = search (rules, send-refused c.args.book.now c.args.user.now c.args.port c.args.seen c.args.batch.now c.requires.legal c.requires.user c.requires.asker (sym c.can_send.ensures ∙ c.if-not-can_send.false))

pub returns-in_err-reserve_leases-clause-kept : goal.returns-in_err-reserve_leases-clause-kept
returns-in_err-reserve_leases-clause-kept c = user-same c.args.book.now c.args.user.now c.reserve_leases.new.self c.reserve_leases.ensures.same c.requires.user

pub returns-in_err-to-clause-served : goal.returns-in_err-to-clause-served
returns-in_err-to-clause-served c = search (rules, send-refused c.args.book.now c.args.user.now c.args.port c.args.seen c.args.batch.now c.requires.legal c.requires.user c.requires.asker (sym c.can_send.ensures ∙ c.if-not-can_send.false))

pub returns-in_err-to-clause-kept : goal.returns-in_err-to-clause-kept
returns-in_err-to-clause-kept c = user-same c.args.book.now c.args.user.now c.reserve_leases.new.self c.reserve_leases.ensures.same c.requires.user

pub returns-in_err-reserve_leases-clause-id : goal.returns-in_err-reserve_leases-clause-id
returns-in_err-reserve_leases-clause-id c = c.reserve_leases.ensures.same.id

pub returns-in_err-to-clause-id : goal.returns-in_err-to-clause-id
returns-in_err-to-clause-id c = c.reserve_leases.ensures.same.id

pub returns-in_err-offers-clause-id : goal.returns-in_err-offers-clause-id
returns-in_err-offers-clause-id c = c.reserve_leases.ensures.same.id

pub returns-clause-id : goal.returns-clause-id
returns-clause-id c = c.keep.ensures.id ∙ c.reserve_leases.ensures.same.id

pub send-requires : goal.send-requires
send-requires c = can-send c.args.book.now c.args.user.now c.args.port c.args.seen c.args.batch.now c.requires.legal c.requires.user c.requires.asker ∙ (sym c.can_send.ensures ∙ c.if-not-can_send.false)

pub returns-in_err-offers-clause-kept : goal.returns-in_err-offers-clause-kept
returns-in_err-offers-clause-kept c =
    subst (λ (r : Recorded). IsUser r c.reserve_leases.new.self) (sym c.in_err-offers.ensures.err)
    (user-same c.args.book.now c.args.user.now c.reserve_leases.new.self c.reserve_leases.ensures.same c.requires.user)

pub last_dests-requires-clause-room : goal.last_dests-requires-clause-room
last_dests-requires-clause-room c =
    let b = c.args.book.now in
    let after = c.send.new.self in
    let user = c.reserve_leases.new.self in
    let offers = c.in_ok-offers.offers in
    let call = c.in_ok-offers.ensures in
    let can = can-parts c.args.seen c.args.user.now c.args.batch.now (sym c.can_send.ensures ∙ c.if-not-can_send.false) in
    let is = c.requires.user in
    let few = few-wants b after c.args.user.now c.args.port c.requires.asker.port c.args.batch.now offers c.requires.legal is c.requires.asker.found_is c.requires.asker.mine can.0 can.1 call.made call.said call.offers in
    let said' = s b after c.args.user.now c.args.port c.requires.asker.port c.args.batch.now offers c.requires.legal is c.requires.asker.found_is c.requires.asker.mine can.0 can.1 call.made call.said call.offers in
    let told : last_dests after.entries ≡ dests_wanted offers.wants = last-told b after (Send c.args.port c.args.batch.now) said'.made call.made said'.is ∙ ap dests_in said'.reply_is in
    let entries = ap (λ h. length (last_dests h)) c.history.ensures.entries in
    let long = ap (λ (ds : List Dest). length ds) told ∙ length-map offers.wants dest_wanted in
    let ports = c.ports-2.ensures in
    let capacity = c.in_ok-to.ensures.capacity in
    omega (arith, few, entries, long, ports, capacity)

pub returns-clause-served : goal.returns-clause-served
returns-clause-served c =
    let b = c.args.book.now in
    let after = c.send.new.self in
    let offers = c.in_ok-offers.offers in
    let call = c.in_ok-offers.ensures in
    let can = can-parts c.args.seen c.args.user.now c.args.batch.now (sym c.can_send.ensures ∙ c.if-not-can_send.false) in
    let said' = s b after c.args.user.now c.args.port c.requires.asker.port c.args.batch.now offers c.requires.legal c.requires.user c.requires.asker.found_is c.requires.asker.mine can.0 can.1 call.made call.said call.offers in
    let told : last_dests after.entries ≡ dests_wanted offers.wants = last-told b after (Send c.args.port c.args.batch.now) said'.made call.made said'.is ∙ ap dests_in said'.reply_is in
    let to : c.last_dests.result ≡ dests_wanted offers.wants = c.last_dests.ensures ∙ (ap last_dests c.history.ensures.entries ∙ told) in
    let reply : Offered c.short.result c.lone.result c.last_dests.result ≡ Offered offers.short offers.lone (dests_wanted offers.wants) = rw (c.short.ensures, c.lone.ensures, to) refl in
    (ap (λ (r : Reply). Some r) reply ∙ sym call.said, call.made, call.room)

pub returns-clause-kept : goal.returns-clause-kept
returns-clause-kept c =
    let b = c.args.book.now in
    let after = c.send.new.self in
    let user = c.reserve_leases.new.self in
    let offers = c.in_ok-offers.offers in
    let call = c.in_ok-offers.ensures in
    let same = c.reserve_leases.ensures.same in
    let can = can-parts c.args.seen c.args.user.now c.args.batch.now (sym c.can_send.ensures ∙ c.if-not-can_send.false) in
    let settled : is_settled_user user ≡ true = settled-same c.args.user.now user same ∙ can.0 in
    let ports = c.ports.ensures in
    let room = c.in_ok-reserve_leases.ensures.room in
    sent-kept b after user c.args.port c.requires.asker.port c.args.batch.now offers c.requires.legal (user-same b c.args.user.now user same c.requires.user) c.requires.asker.found_is
    (c.requires.asker.mine ∙ ap (λ (i : SessionId). i.0) (sym same.id)) settled can.1 call.made call.said call.offers
    c.keep.new.user c.in_ok-frames.frames c.in_ok-frames.ensures c.keep.ensures (omega (arith, ports, room))
