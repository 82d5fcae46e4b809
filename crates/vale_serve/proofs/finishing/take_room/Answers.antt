use Rattle.std.proofs.Common.{◌≡◌, get_or, sym, ◌∙◌, rules}
use Rattle.vale_serve.specs.Users.{is_room_of}
use Rattle.vale_serve.proofs.Places.{none-passes}
use Rattle.vale_serve.proofs.Finishes.{lost-room, room-at}
use Rattle.vale_serve.proofs.finishing.take_room.Goals as goal

pub unreachable-requires : goal.unreachable-requires
unreachable-requires c =
    let off = none-passes (is_room_of c.args.port.0) c.args.rooms.now.items (rw c.deref.ensures.value at (sym c.place_of.ensures ∙ c.in_default.is)) in
    let on = c.requires.there in
    absurd cc

pub returns-clause-memory : goal.returns-clause-memory
returns-clause-memory c =
    let room = c.remove-bufs.result in
    let is : room ≡ get_or c.args.rooms.now.items c.in-Some.place room = search rules in
    room-at c.args.rooms.now.items c.args.port.0 c.in-Some.place room (rw c.deref.ensures.value at (sym c.place_of.ensures ∙ c.in-Some.is)) is c.requires.each

pub returns-clause-taken : goal.returns-clause-taken
returns-clause-taken c =
    lost-room c.args.rooms.now.items c.remove-bufs.new.self.items c.args.port.0 c.in-Some.place (rw c.deref.ensures.value at (sym c.place_of.ensures ∙ c.in-Some.is)) c.remove-bufs.ensures.items
