use Rattle.std.proofs.Common.{None, IfSome, subst}
use Rattle.nm_user.specs.Sessions.{IsThere}
use Rattle.vale_fabric.specs.Fabrics.{knowing}
use Rattle.vale_player.specs.Kept.{AreWhole}
use Rattle.vale_player.specs.Players.{PlayerState}
use Rattle.vale_player.proofs.KeptPorts.{left-if-whole}
use Rattle.vale_player.proofs.player.Player.leave.Goals as goal

pub returns-clause-whole : goal.returns-clause-whole
returns-clause-whole g c =
    let kept = c.self.inside.kept in
    let w = knowing c.leave.result in
    subst (λ (x : PlayerState). IfSome kept (AreWhole x.session.fixed.pool w.seen)) c.self.view_is
    (left-if-whole c.self.inside.session w kept c.self.invariant.there c.leave.ensures.left c.self.invariant.all)

pub returns-clause-there : goal.returns-clause-there
returns-clause-there g c = subst (λ (x : PlayerState). IsThere None x.session) c.self.view_is c.self.invariant.there
