use Rattle.std.proofs.Common.{length, arith}
use Rattle.std.specs.Vec.{vec_capacity}
use Rattle.nm_types.specs.OwnSyncs.{back_on}
use Rattle.nm_user.specs.declared.receiving.BackRoom.{BackRoom}
use Rattle.nm_user.proofs.Receives.{few-back, enough}
use Rattle.nm_user.proofs.session.Session.back_room.Goals as goal

pub returns-clause-back_room : goal.returns-clause-back_room
returns-clause-back_room c =
    let few = few-back c.args.self.now.own c.args.port.0 c.in-Some.ring.now c.in-Some.ensures c.requires.passes in
    enough (length (back_on c.args.port.0 c.args.self.now.own)) c.user_range.result.1 (λ (room : BackRoom). vec_capacity room.back) c.new.result (omega (arith, few, c.user_range.ensures.count)) c.new.ensures.back_room

pub returns-clause-notes_room : goal.returns-clause-notes_room
returns-clause-notes_room c =
    let few = few-back c.args.self.now.own c.args.port.0 c.in-Some.ring.now c.in-Some.ensures c.requires.passes in
    enough (length (back_on c.args.port.0 c.args.self.now.own)) c.user_range.result.1 (λ (room : BackRoom). vec_capacity room.notes) c.new.result (omega (arith, few, c.user_range.ensures.count)) c.new.ensures.notes_room
