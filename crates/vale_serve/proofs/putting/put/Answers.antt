use Rattle.std.proofs.Common.{◌≤◌, List, Some, length, take, drop, refl, sym, ◌∙◌, ap, subst, arith, rules}
use Rattle.std.specs.Prelude.{vec_capacity, Ok}
use Rattle.std.proofs.lemmas.List.{length-map}
use Rattle.vale_entry.specs.declared.entry.Ask.TheVariants.{Put}
use Rattle.vale_entry.specs.declared.entry.Item.{Item}
use Rattle.vale_entry.specs.Legal.{IsEnabled}
use Rattle.vale_entry.specs.Pipe.{index_of_item}
use Rattle.vale_book.specs.Putting.{item_of, items_of, IsPut}
use Rattle.vale_book.specs.Recorded.{standing}
use Rattle.vale_serve.specs.Putting.{AreFramed, HasPut, bytes_in, unput}
use Rattle.vale_serve.specs.Replies.{last_dests}
use Rattle.vale_serve.specs.Serving.{IsServed}
use Rattle.vale_serve.proofs.Acting.{unserved, user-same, settled-parts}
use Rattle.vale_serve.proofs.PortPuts.{put-named, put-there, can-put-is, can-put-parts, put-enabled, put-refused, few-dests, as-few, put-served, put-kept, unput-kept, unput-served}
use Rattle.vale_serve.proofs.putting.put.Goals as goal

pub returns-then-not-can_put-clause-served : goal.returns-then-not-can_put-clause-served
returns-then-not-can_put-clause-served c =
    unserved c.args.book.now (Put c.args.port c.args.offered.now) (λ s. refl)
    (can-put-is c.args.book.now c.args.user.now c.args.port c.args.seen c.args.offered.now c.requires.legal c.requires.user c.requires.asker
    ∙ (sym c.can_put.ensures ∙ c.if-not-can_put.true))

pub returns-in_err-reserve_leases-clause-served : goal.returns-in_err-reserve_leases-clause-served
returns-in_err-reserve_leases-clause-served c =
    let full = put-refused c.args.book.now c.args.user.now c.args.port c.args.seen c.args.offered.now c.requires.legal c.requires.user c.requires.asker (sym c.can_put.ensures ∙ c.if-not-can_put.false) in search rules

pub returns-in_err-reserve_leases-clause-kept : goal.returns-in_err-reserve_leases-clause-kept
returns-in_err-reserve_leases-clause-kept c = user-same c.args.book.now c.args.user.now c.reserve_leases.new.self c.reserve_leases.ensures.same c.requires.user

pub returns-in_err-room-clause-served : goal.returns-in_err-room-clause-served
returns-in_err-room-clause-served c =
    let full = put-refused c.args.book.now c.args.user.now c.args.port c.args.seen c.args.offered.now c.requires.legal c.requires.user c.requires.asker (sym c.can_put.ensures ∙ c.if-not-can_put.false) in search rules

pub returns-in_err-room-clause-kept : goal.returns-in_err-room-clause-kept
returns-in_err-room-clause-kept c = user-same c.args.book.now c.args.user.now c.reserve_leases.new.self c.reserve_leases.ensures.same c.requires.user

pub returns-in_err-reserve_leases-clause-id : goal.returns-in_err-reserve_leases-clause-id
returns-in_err-reserve_leases-clause-id c = c.reserve_leases.ensures.same.id

pub returns-in_err-room-clause-id : goal.returns-in_err-room-clause-id
returns-in_err-room-clause-id c = c.reserve_leases.ensures.same.id

pub take_from-requires-clause-there : goal.take_from-requires-clause-there
take_from-requires-clause-there c =
    put-there c.args.user.now c.reserve_leases.new.self c.args.seen c.args.offered.now c.deref.result.now (sym c.can_put.ensures ∙ c.if-not-can_put.false) c.reserve_leases.ensures.same
    (rw c.deref.ensures.value c.in_ok-room.ensures.named)

pub all_framed-pending-requires-clause-named : goal.all_framed-pending-requires-clause-named
all_framed-pending-requires-clause-named c = c.take_from.ensures.bufs.named_is ∙ rw c.deref.ensures.value c.in_ok-room.ensures.named

pub all_framed-pending-requires-clause-pipe : goal.all_framed-pending-requires-clause-pipe
all_framed-pending-requires-clause-pipe c = (can-put-parts c.args.offered.now c.args.user.now c.args.seen (sym c.can_put.ensures ∙ c.if-not-can_put.false)).pipe

pub pipe_put-requires-clause-enabled : goal.pipe_put-requires-clause-enabled
pipe_put-requires-clause-enabled c =
    let framed : AreFramed c.take_from.result.items c.args.offered.now c.all_framed-pending.result.items = c.all_framed-pending.ensures in
    subst (λ (items : List Item). IsEnabled (standing c.args.book.now) (Put c.args.port items)) (sym framed.items)
    (put-enabled c.args.book.now c.args.user.now c.args.port c.args.seen c.args.offered.now c.requires.legal c.requires.user c.requires.asker (sym c.can_put.ensures ∙ c.if-not-can_put.false))

pub pipe_put-requires-clause-of : goal.pipe_put-requires-clause-of
pipe_put-requires-clause-of c =
    let r = put-named c.args.book.now c.args.user.now c.reserve_leases.new.self c.take_from.new.user c.args.port c.args.seen c.args.offered.now c.take_from.result.items c.all_framed-pending.result.items
    c.requires.legal c.requires.user c.requires.asker (sym c.can_put.ensures ∙ c.if-not-can_put.false) c.reserve_leases.ensures.same c.take_from.ensures (rw c.deref.ensures.value c.in_ok-room.ensures.named) c.all_framed-pending.ensures in
    r.region_is

pub took-reply-requires-clause-dests : goal.took-reply-requires-clause-dests
took-reply-requires-clause-dests c =
    let r = put-named c.args.book.now c.args.user.now c.reserve_leases.new.self c.take_from.new.user c.args.port c.args.seen c.args.offered.now c.take_from.result.items c.all_framed-pending.result.items
    c.requires.legal c.requires.user c.requires.asker (sym c.can_put.ensures ∙ c.if-not-can_put.false) c.reserve_leases.ensures.same c.take_from.ensures (rw c.deref.ensures.value c.in_ok-room.ensures.named) c.all_framed-pending.ensures in
    let is_put : IsPut c.args.book.now c.pipe_put.new.self c.args.port c.all_framed-pending.result.items c.in-Ok.put = c.in-Ok.ensures.put in
    let few = few-dests r is_put c.in-Ok.ensures.made c.in-Ok.ensures.room in
    let entries = ap (λ h. length (last_dests h)) c.history.ensures.entries in
    let room = c.in_ok-room.ensures.dests in
    omega (arith, few, entries, room)

pub take_in-requires-clause-room : goal.take_in-requires-clause-room
take_in-requires-clause-room c =
    let r = put-named c.args.book.now c.args.user.now c.reserve_leases.new.self c.take_from.new.user c.args.port c.args.seen c.args.offered.now c.take_from.result.items c.all_framed-pending.result.items
    c.requires.legal c.requires.user c.requires.asker (sym c.can_put.ensures ∙ c.if-not-can_put.false) c.reserve_leases.ensures.same c.take_from.ensures (rw c.deref.ensures.value c.in_ok-room.ensures.named) c.all_framed-pending.ensures in
    let is_put : IsPut c.args.book.now c.pipe_put.new.self c.args.port c.all_framed-pending.result.items c.in-Ok.put = c.in-Ok.ensures.put in
    let few = as-few r is_put c.in-Ok.ensures.made c.in-Ok.ensures.room in
    let left = ap (λ gs. length gs) c.in-Ok.ensures.pending in
    let fewer = r.out.bufs.fewer in
    let capacity = r.out.capacity in
    let size = length-map (items_of c.all_framed-pending.result.items) index_of_item in
    let count = length-map c.all_framed-pending.result.items item_of in
    let room : length c.reserve_leases.new.self.bufs.items ≤ vec_capacity c.reserve_leases.new.self.bufs = search rules in
    omega (arith, few, left, fewer, capacity, size, count, room)

pub take_in-requires-clause-settled : goal.take_in-requires-clause-settled
take_in-requires-clause-settled c =
    let parts = can-put-parts c.args.offered.now c.args.user.now c.args.seen (sym c.can_put.ensures ∙ c.if-not-can_put.false) in
    c.take_from.ensures.sent ∙ (c.reserve_leases.ensures.same.sent ∙ (settled-parts c.args.user.now parts.settled).0)

pub give_all-requires : goal.give_all-requires
give_all-requires c =
    let r = put-named c.args.book.now c.args.user.now c.reserve_leases.new.self c.take_from.new.user c.args.port c.args.seen c.args.offered.now c.take_from.result.items c.all_framed-pending.result.items
    c.requires.legal c.requires.user c.requires.asker (sym c.can_put.ensures ∙ c.if-not-can_put.false) c.reserve_leases.ensures.same c.take_from.ensures (rw c.deref.ensures.value c.in_ok-room.ensures.named) c.all_framed-pending.ensures in
    let left = ap (λ gs. length gs) c.in-Err.ensures.kept in
    let fewer = r.out.bufs.fewer in
    let capacity = r.out.capacity in
    let size = length-map (items_of c.all_framed-pending.result.items) index_of_item in
    let count = length-map c.all_framed-pending.result.items item_of in
    let room : length c.reserve_leases.new.self.bufs.items ≤ vec_capacity c.reserve_leases.new.self.bufs = search rules in
    omega (arith, left, fewer, capacity, size, count, room)

pub returns-in-Ok-clause-id : goal.returns-in-Ok-clause-id
returns-in-Ok-clause-id c = c.take_in.ensures.sent.id ∙ (c.take_in.ensures.more.id ∙ (c.take_from.ensures.id ∙ c.reserve_leases.ensures.same.id))

pub returns-clause-id : goal.returns-clause-id
returns-clause-id c = c.give_all.ensures.more.id ∙ (c.take_from.ensures.id ∙ c.reserve_leases.ensures.same.id)

pub returns-in-Ok-clause-served : goal.returns-in-Ok-clause-served
returns-in-Ok-clause-served c =
    let r = put-named c.args.book.now c.args.user.now c.reserve_leases.new.self c.take_from.new.user c.args.port c.args.seen c.args.offered.now c.take_from.result.items c.all_framed-pending.result.items
    c.requires.legal c.requires.user c.requires.asker (sym c.can_put.ensures ∙ c.if-not-can_put.false) c.reserve_leases.ensures.same c.take_from.ensures (rw c.deref.ensures.value c.in_ok-room.ensures.named) c.all_framed-pending.ensures in
    let is_put : IsPut c.args.book.now c.pipe_put.new.self c.args.port c.all_framed-pending.result.items c.in-Ok.put = c.in-Ok.ensures.put in
    let framed : AreFramed c.take_from.result.items c.args.offered.now c.all_framed-pending.result.items = c.all_framed-pending.ensures in
    let items = c.in_ok-room.ensures.items in
    subst (λ (its : List Item). IsServed c.args.book.now c.pipe_put.new.self (Put c.args.port its) (Ok (Some c.took-reply.result))) framed.items
    (put-served r is_put c.in-Ok.ensures.made c.in-Ok.ensures.room c.took-reply.result (rw (framed.items, ← items, ← c.history.ensures.entries) c.took-reply.ensures))

pub returns-in-Ok-clause-kept : goal.returns-in-Ok-clause-kept
returns-in-Ok-clause-kept c =
    let r = put-named c.args.book.now c.args.user.now c.reserve_leases.new.self c.take_from.new.user c.args.port c.args.seen c.args.offered.now c.take_from.result.items c.all_framed-pending.result.items
    c.requires.legal c.requires.user c.requires.asker (sym c.can_put.ensures ∙ c.if-not-can_put.false) c.reserve_leases.ensures.same c.take_from.ensures (rw c.deref.ensures.value c.in_ok-room.ensures.named) c.all_framed-pending.ensures in
    let is_put : IsPut c.args.book.now c.pipe_put.new.self c.args.port c.all_framed-pending.result.items c.in-Ok.put = c.in-Ok.ensures.put in
    let gots = c.all_framed-pending.result.items in
    let framed : AreFramed c.take_from.result.items c.args.offered.now c.all_framed-pending.result.items = c.all_framed-pending.ensures in
    let frames = c.in_ok-room.ensures.frames in
    let has : HasPut c.take_from.new.user (drop c.in-Ok.put.took gots) c.in-Ok.put.back.items c.in-Ok.put.offers (take c.in-Ok.put.took (bytes_in (items_of gots))) c.take_in.new.user =
    rw (← c.in-Ok.ensures.pending, framed.items, ← frames) c.take_in.ensures in
    put-kept r is_put c.in-Ok.ensures.made c.in-Ok.ensures.room c.take_in.new.user has c.in_ok-reserve_leases.ensures.room

pub returns-clause-served : goal.returns-clause-served
returns-clause-served c =
    let r = put-named c.args.book.now c.args.user.now c.reserve_leases.new.self c.take_from.new.user c.args.port c.args.seen c.args.offered.now c.take_from.result.items c.all_framed-pending.result.items
    c.requires.legal c.requires.user c.requires.asker (sym c.can_put.ensures ∙ c.if-not-can_put.false) c.reserve_leases.ensures.same c.take_from.ensures (rw c.deref.ensures.value c.in_ok-room.ensures.named) c.all_framed-pending.ensures in
    let y = c.in-Err.ensures in
    let framed : AreFramed c.take_from.result.items c.args.offered.now c.all_framed-pending.result.items = c.all_framed-pending.ensures in
    let said : IsServed c.args.book.now c.pipe_put.new.self (Put c.args.port (items_of c.all_framed-pending.result.items)) (unput c.in-Err.fault) = unput-served r c.pipe_put.new.self c.in-Err.fault y.made y.room y.err y.refused in
    rw c.unput.ensures (subst (λ (its : List Item). IsServed c.args.book.now c.pipe_put.new.self (Put c.args.port its) (unput c.in-Err.fault)) framed.items said)

pub returns-clause-kept : goal.returns-clause-kept
returns-clause-kept c =
    let r = put-named c.args.book.now c.args.user.now c.reserve_leases.new.self c.take_from.new.user c.args.port c.args.seen c.args.offered.now c.take_from.result.items c.all_framed-pending.result.items
    c.requires.legal c.requires.user c.requires.asker (sym c.can_put.ensures ∙ c.if-not-can_put.false) c.reserve_leases.ensures.same c.take_from.ensures (rw c.deref.ensures.value c.in_ok-room.ensures.named) c.all_framed-pending.ensures in
    let y = c.in-Err.ensures in
    unput-kept r c.pipe_put.new.self c.requires.asker.port c.requires.asker.found_is c.give_all.new.user c.pipe_put.new.pending.items c.give_all.ensures.more y.kept c.in-Err.fault y.made y.err y.refused
