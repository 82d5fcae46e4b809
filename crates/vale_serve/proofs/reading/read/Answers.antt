use Rattle.std.proofs.Common.{ℕ, ◌≡◌, List, length, sym, ◌∙◌, ap, subst, arith, rules}
use Rattle.std.proofs.lemmas.List.{length-map}
use Rattle.nm_region.specs.Buffers.{Buffer, indices_of}
use Rattle.vale_entry.specs.Legal.{IsEnabled}
use Rattle.vale_book.specs.BookView.{AreOf}
use Rattle.vale_book.specs.Reading.{read_ask}
use Rattle.vale_book.specs.Recorded.{Recorded, standing, IsRefusal}
use Rattle.vale_port.specs.Ports.{sizes_of}
use Rattle.vale_entry.specs.Delivery.{delivered_frames}
use Rattle.vale_serve.specs.Reading.{copied_sizes}
use Rattle.vale_serve.specs.Buffers.{holds_all}
use Rattle.vale_serve.specs.Exchange.{HasRead}
use Rattle.vale_serve.specs.Replies.{last_dests}
use Rattle.vale_serve.specs.Users.{IsUser}
use Rattle.vale_serve.proofs.Acting.{unserved, user-same, settled-parts}
use Rattle.vale_serve.proofs.Exchanges.{back-kept}
use Rattle.vale_serve.proofs.PortReads.{ReadOf, read-of, read-plain, can-read-is, can-read-parts, read-enabled, read-refused, count, frames, sizes-told, few-dests, read-served, read-kept}
use Rattle.vale_serve.proofs.reading.read.Goals.{In-Ok}
use Rattle.vale_serve.proofs.reading.read.Goals as goal

pub returns-then-not-can_read-clause-served : goal.returns-then-not-can_read-clause-served
returns-then-not-can_read-clause-served c =
    unserved c.args.book.now (read_ask c.args.is_pipe c.args.port c.args.back.now) (read-plain c.args.is_pipe c.args.port c.args.back.now)
    (can-read-is c.args.book.now c.args.user.now c.args.port c.args.seen c.args.is_pipe c.args.back.now c.requires.legal c.requires.user c.requires.asker
    ∙ (sym c.can_read.ensures ∙ c.if-not-can_read.true))

pub returns-in_err-room-clause-served : goal.returns-in_err-room-clause-served
returns-in_err-room-clause-served c =
    let full = read-refused c.args.book.now c.args.user.now c.args.port c.args.seen c.args.is_pipe c.args.back.now c.requires.legal c.requires.user c.requires.asker
    (sym c.can_read.ensures ∙ c.if-not-can_read.false) in
    search rules

pub returns-in_err-sizes-clause-served : goal.returns-in_err-sizes-clause-served
returns-in_err-sizes-clause-served c =
    let full = read-refused c.args.book.now c.args.user.now c.args.port c.args.seen c.args.is_pipe c.args.back.now c.requires.legal c.requires.user c.requires.asker
    (sym c.can_read.ensures ∙ c.if-not-can_read.false) in
    search rules

pub returns-in_err-room-clause-kept : goal.returns-in_err-room-clause-kept
returns-in_err-room-clause-kept c = user-same c.args.book.now c.args.user.now c.room_to_read.new.user c.room_to_read.ensures.same c.requires.user

pub returns-in_err-room-clause-id : goal.returns-in_err-room-clause-id
returns-in_err-room-clause-id c = c.room_to_read.ensures.same.id

pub take_from-requires-clause-there : goal.take_from-requires-clause-there
take_from-requires-clause-there c =
    let parts = can-read-parts c.args.is_pipe c.args.back.now c.args.user.now c.args.seen (sym c.can_read.ensures ∙ c.if-not-can_read.false) in
    ap (λ (bs : List Buffer). holds_all bs c.args.back.now) c.room_to_read.ensures.same.bufs ∙ parts.1

pub read-requires-clause-enabled : goal.read-requires-clause-enabled
read-requires-clause-enabled c =
    subst (λ (ns : List ℕ). IsEnabled (standing c.args.book.now) (read_ask c.args.is_pipe c.args.port ns)) (sym c.take_from.ensures.bufs.named_is)
    (read-enabled c.args.book.now c.args.user.now c.args.port c.args.seen c.args.is_pipe c.args.back.now c.requires.legal c.requires.user c.requires.asker
    (sym c.can_read.ensures ∙ c.if-not-can_read.false))

pub read-requires-clause-of : goal.read-requires-clause-of
read-requires-clause-of c =
    c.take_from.ensures.bufs.taken_of c.args.book.now.region
    (subst (λ (bs : List Buffer). AreOf c.args.book.now.region bs) (sym c.room_to_read.ensures.same.bufs) c.requires.user.region_is)

-- what the read gave and left
what-is-read : (c : In-Ok) → ReadOf c.args.book.now c.read.new.self c.room_to_read.new.user c.take_from.new.user c.args.is_pipe c.args.port c.args.back.now c.take_from.result.items c.in-Ok.synced.got.items
    c.in-Ok.synced.offers c.ready-ready.result
what-is-read c =
    read-of c.args.book.now c.read.new.self c.args.user.now c.room_to_read.new.user c.take_from.new.user c.args.is_pipe c.args.port c.args.seen c.args.back.now c.take_from.result.items c.in-Ok.synced.got.items
    c.in-Ok.synced.offers c.ready-ready.result c.requires.legal c.requires.user c.requires.asker (sym c.can_read.ensures ∙ c.if-not-can_read.false) c.room_to_read.ensures.same c.take_from.ensures
    c.in-Ok.ensures.made c.in-Ok.ensures.said c.in-Ok.ensures.room c.in-Ok.ensures.got c.in-Ok.ensures.cut c.in-Ok.ensures.offers c.ready-ready.ensures

sizes-are : (c : In-Ok) → c.in_ok-sizes.sizes.items ≡ copied_sizes c.ready-ready.result (sizes_of (delivered_frames (what-is-read c).port))
sizes-are c = c.in_ok-sizes.ensures (what-is-read c).port (what-is-read c).here

pub take_in-requires-clause-frames : goal.take_in-requires-clause-frames
take_in-requires-clause-frames c = sym (frames (what-is-read (goal.at.take_in-requires-clause-frames c).In-Ok))

pub take_in-requires-clause-copies : goal.take_in-requires-clause-copies
take_in-requires-clause-copies c =
    let at = (goal.at.take_in-requires-clause-copies c).In-Ok in
    rw c.in_ok-room.ensures.room.copies (sizes-told (what-is-read at) c.in_ok-sizes.sizes.items (sizes-are at))

pub take_in-requires-clause-room : goal.take_in-requires-clause-room
take_in-requires-clause-room c =
    let r = what-is-read (goal.at.take_in-requires-clause-room c).In-Ok in
    let count' = count r in
    let fewer = c.take_from.ensures.bufs.fewer in
    let capacity = c.take_from.ensures.capacity in
    let room = c.in_ok-room.ensures.fits.bufs in
    omega (arith, count', fewer, capacity, room)

pub take_in-requires-clause-settled : goal.take_in-requires-clause-settled
take_in-requires-clause-settled c =
    let parts = can-read-parts c.args.is_pipe c.args.back.now c.args.user.now c.args.seen (sym c.can_read.ensures ∙ c.if-not-can_read.false) in
    c.take_from.ensures.sent ∙ (c.room_to_read.ensures.same.sent ∙ (settled-parts c.args.user.now parts.0).0)

pub take_in-requires-clause-dests : goal.take_in-requires-clause-dests
take_in-requires-clause-dests c =
    let r = what-is-read (goal.at.take_in-requires-clause-dests c).In-Ok in
    let few = few-dests r in
    let entries = ap (λ h. length (last_dests h)) c.history.ensures.entries in
    let room = c.in_ok-room.ensures.room.dests in
    omega (arith, few, entries, room)

pub returns-in-Ok-clause-served : goal.returns-in-Ok-clause-served
returns-in-Ok-clause-served c =
    let r = what-is-read (goal.at.returns-in-Ok-clause-served c).In-Ok in
    read-served r c.take_in.result (rw (← c.history.ensures.entries) c.take_in.ensures.reply)

pub returns-in-Ok-clause-kept : goal.returns-in-Ok-clause-kept
returns-in-Ok-clause-kept c =
    let at = (goal.at.returns-in-Ok-clause-kept c).In-Ok in
    let r = what-is-read at in
    let sizes = c.in_ok-sizes.sizes.items in
    let has : HasRead c.take_from.new.user c.in-Ok.synced.got.items c.in-Ok.synced.offers (length sizes) c.take_in.new.user =
    subst (λ (ns : List ℕ). HasRead c.take_from.new.user c.in-Ok.synced.got.items c.in-Ok.synced.offers (length ns) c.take_in.new.user) c.in_ok-room.ensures.room.copies c.take_in.ensures.taken in
    read-kept r sizes (sizes-are at) c.take_in.new.user has c.in_ok-room.ensures.fits.lease

pub returns-in-Ok-clause-id : goal.returns-in-Ok-clause-id
returns-in-Ok-clause-id c =
    let has = c.take_in.ensures.taken in
    has.sent.id ∙ (has.more.id ∙ (c.take_from.ensures.id ∙ c.room_to_read.ensures.same.id))

pub give-requires : goal.give-requires
give-requires c =
    let back = ap (λ v. length v.items) c.in-Err.ensures.back in
    let long = sym (length-map c.take_from.result.items (λ (b : Buffer). b.index)) ∙ ap (λ (ns : List ℕ). length ns) c.take_from.ensures.bufs.named_is in
    let fewer = c.take_from.ensures.bufs.fewer in
    let capacity = c.take_from.ensures.capacity in
    let room = c.in_ok-room.ensures.fits.bufs in
    omega (arith, back, long, fewer, capacity, room)

pub returns-in-Err-clause-id : goal.returns-in-Err-clause-id
returns-in-Err-clause-id c = c.give.ensures.more.id ∙ (c.take_from.ensures.id ∙ c.room_to_read.ensures.same.id)

pub returns-in-Err-clause-served : goal.returns-in-Err-clause-served
returns-in-Err-clause-served c = (
  subst (λ (ns : List ℕ). IsRefusal c.args.book.now (read_ask c.args.is_pipe c.args.port ns) c.in-Err.fault) c.take_from.ensures.bufs.named_is c.in-Err.ensures.full,
  c.in-Err.ensures.err,
)

pub returns-in-Err-clause-kept : goal.returns-in-Err-clause-kept
returns-in-Err-clause-kept c =
    let b = c.args.book.now in
    let user = c.room_to_read.new.user in
    let is : IsUser b user = user-same b c.args.user.now user c.room_to_read.ensures.same c.requires.user in
    let out = c.take_from.ensures in
    let same = ap (λ v. v.items) c.in-Err.ensures.back in
    subst (λ (r : Recorded). IsUser r c.give.new.user) (sym c.in-Err.ensures.err)
    (back-kept b user c.take_from.new.user c.give.new.user c.args.back.now c.take_from.result.items c.in-Err.bufs.items is out c.give.ensures.more
    (ap indices_of same ∙ out.bufs.named_is) (subst (AreOf b.region) (sym same) (out.bufs.taken_of b.region is.region_is)))
