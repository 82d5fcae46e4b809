use Rattle.std.proofs.Common.{◌≡◌, None, subst, length}
use Rattle.nm_types.specs.OwnEdits.{has_room}
use Rattle.nm_user.specs.Sessions.{IsThere}
use Rattle.vale_player.specs.Players.{PlayerState}
use Rattle.vale_player.proofs.player.Player.has_room.Goals as goal

pub returns : goal.returns
returns c = record {
  room = subst (λ (x : PlayerState). c.has_room.result ≡ has_room x.session.own c.args.port.0 (length c.args.bytes.now)) c.self.view_is c.has_room.ensures;
  there = subst (λ (x : PlayerState). IsThere None x.session) c.self.view_is c.self.invariant.there;
}
