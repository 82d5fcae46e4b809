use Rattle.std.proofs.Common.{ℕ, ◌≡◌, ◌+◌, List, length, take, drop, sym, ◌∙◌, ap, arith}
use Rattle.std.proofs.lemmas.List.{length-map}
use Rattle.nm_region.specs.Buffers.{Buffer}
use Rattle.vale_book.specs.Recorded.{standing}
use Rattle.vale_serve.proofs.Acting.{user-same}
use Rattle.vale_serve.proofs.Opens.{opened-kept, unopened-kept}
use Rattle.vale_serve.proofs.Sizes.{opened-few}
use Rattle.vale_serve.proofs.opening.open.Goals as goal

pub returns-in_err-room-clause-kept : goal.returns-in_err-room-clause-kept
returns-in_err-room-clause-kept c = user-same c.args.book.now c.args.user.now c.room_to_open.new.user c.room_to_open.ensures.same c.requires.user

pub take_in-requires-clause-takes : goal.take_in-requires-clause-takes
take_in-requires-clause-takes c =
    let free = (standing c.args.book.now).holdings.free in
    let tx : length c.in-Ok.opened.tx.items ≡ length (take c.args.tx free) = sym (length-map c.in-Ok.opened.tx.items (λ (b : Buffer). b.index)) ∙ ap (λ (ns : List ℕ). length ns) c.in-Ok.ensures.tx in
    let extra : length c.in-Ok.opened.extra.items ≡ length (take c.args.extra (drop (c.args.tx + c.args.rx) free)) =
    sym (length-map c.in-Ok.opened.extra.items (λ (b : Buffer). b.index)) ∙ ap (λ (ns : List ℕ). length ns) c.in-Ok.ensures.extra in
    let few = opened-few (standing c.args.book.now) c.room_to_open.new.user.id.0 c.args.name.now c.args.tx c.args.rx c.args.extra free (drop (c.args.tx + c.args.rx) free) c.in-Ok.ensures.made.reply_is in
    let room = c.in_ok-room.ensures.takes.bufs in
    record { bufs = omega (arith, tx, extra, few, room); rooms = c.in_ok-room.ensures.takes.rooms }

pub returns-in_err-unopened-in-Err-clause-kept : goal.returns-in_err-unopened-in-Err-clause-kept
returns-in_err-unopened-in-Err-clause-kept c =
    unopened-kept c.args.book.now c.open.new.self c.room_to_open.new.user c.args.name.now c.args.tx c.args.rx c.args.extra c.in-Err.fault c.requires.legal
    (user-same c.args.book.now c.args.user.now c.room_to_open.new.user c.room_to_open.ensures.same c.requires.user) c.in-Err.ensures.unopened

pub returns-in-Ok-clause-kept : goal.returns-in-Ok-clause-kept
returns-in-Ok-clause-kept c =
    let user = user-same c.args.book.now c.args.user.now c.room_to_open.new.user c.room_to_open.ensures.same c.requires.user in
    opened-kept c.args.book.now c.open.new.self c.room_to_open.new.user c.take_in.new.user c.args.name.now c.args.tx c.args.rx c.args.extra c.in-Ok.opened c.in_ok-room.room
    c.requires.legal user c.take_in.ensures c.in_ok-room.ensures.room c.in-Ok.ensures.port c.in-Ok.ensures.made c.in-Ok.ensures.tx c.in-Ok.ensures.extra c.in-Ok.ensures.region
    (rw (c.take_in.ensures.leases, c.take_in.ensures.sent) user.lease_room)

pub returns-in_ok-unopened-in-Err-clause-kept : goal.returns-in_ok-unopened-in-Err-clause-kept
returns-in_ok-unopened-in-Err-clause-kept c =
    unopened-kept c.args.book.now c.open.new.self c.room_to_open.new.user c.args.name.now c.args.tx c.args.rx c.args.extra c.in-Err.fault c.requires.legal
    (user-same c.args.book.now c.args.user.now c.room_to_open.new.user c.room_to_open.ensures.same c.requires.user) c.in-Err.ensures.unopened

pub returns-in_err-room-clause-id : goal.returns-in_err-room-clause-id
returns-in_err-room-clause-id c = c.room_to_open.ensures.same.id

pub returns-in_err-unopened-in-Err-clause-id : goal.returns-in_err-unopened-in-Err-clause-id
returns-in_err-unopened-in-Err-clause-id c = c.room_to_open.ensures.same.id

pub returns-in-Ok-clause-id : goal.returns-in-Ok-clause-id
returns-in-Ok-clause-id c = c.take_in.ensures.id ∙ c.room_to_open.ensures.same.id

pub returns-in_ok-unopened-in-Err-clause-id : goal.returns-in_ok-unopened-in-Err-clause-id
returns-in_ok-unopened-in-Err-clause-id c = c.room_to_open.ensures.same.id
