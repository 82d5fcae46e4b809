use Rattle.std.proofs.Common.{sym, subst, ◌∙◌}
use Rattle.vale_replay.specs.Tasks.{PutFrame}
use Rattle.vale_player.specs.Syncing.{NeedsNoneOrEnds}
use Rattle.vale_player.proofs.Doing.{still-self}
use Rattle.vale_player.proofs.Leading.{sender-found, room-by, room-needs, room-behind, needs-at, put-stops}
use Rattle.vale_player.proofs.player.Player.make_room.Goals as goal

pub returns-then-has_room-clause-room : goal.returns-then-has_room-clause-room
returns-then-has_room-clause-room g c =
    let bytes = c.args.bytes.now in
    let p = c.args.self.now in
    let name = c.args.name.now in
    let sound = c.has_room.ensures.there.side.sound in
    let sender = sender-found p.session.own name c.args.port sound c.requires.named in
    room-needs p name bytes sound (room-by p.session.own name c.args.port sender.of bytes ∙ (sym c.has_room.ensures.room ∙ c.if-has_room.true))

pub returns-then-has_room-clause-ready : goal.returns-then-has_room-clause-ready
returns-then-has_room-clause-ready g c goes = sym c.has_room.ensures.room ∙ c.if-has_room.true

pub returns-then-has_room-clause-named : goal.returns-then-has_room-clause-named
returns-then-has_room-clause-named g c = c.requires.named

pub returns-then-has_room-clause-still : goal.returns-then-has_room-clause-still
returns-then-has_room-clause-still g c = still-self c.args.self.now

pub returns-in-Ok-clause-room : goal.returns-in-Ok-clause-room
returns-in-Ok-clause-room g c =
    let bytes = c.args.bytes.now in
    let p = c.args.self.now in
    let q = c.send.new.self in
    let sent = c.in-Ok.ensures in
    let sender = sender-found p.session.own c.args.name.now c.args.port sent.there.side.sound c.requires.named in
    subst (NeedsNoneOrEnds p q (PutFrame c.args.name.now bytes)) (sym c.leaves_room.ensures)
    (needs-at p q sent.there sent.stays sent.same c.args.name.now c.args.port sender sent.named
    bytes c.in-Ok.end c.has_room-in-Ok.result (sym c.has_room.ensures.room ∙ c.if-has_room.false) (sym c.has_room-in-Ok.ensures.room) sent.came)

pub returns-in-Ok-clause-ready : goal.returns-in-Ok-clause-ready
returns-in-Ok-clause-ready g c goes =
    sym c.has_room-in-Ok.ensures.room ∙ room-behind c.in-Ok.end c.has_room-in-Ok.result (sym c.leaves_room.ensures ∙ goes)

pub returns-in-Err-clause-stops : goal.returns-in-Err-clause-stops
returns-in-Err-clause-stops g c =
    let bytes = c.args.bytes.now in
    let p = c.args.self.now in
    let name = c.args.name.now in
    let port = c.args.port in
    let sent = c.in-Err.ensures in
    let sender = sender-found p.session.own name port sent.there.side.sound c.requires.named in
    put-stops p c.send.new.self sent.same name port sender.of bytes c.in-Err.fault
    (room-by p.session.own name port sender.of bytes ∙ (sym c.has_room.ensures.room ∙ c.if-has_room.false)) sent.none
