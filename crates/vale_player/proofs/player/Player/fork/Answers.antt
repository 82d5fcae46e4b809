use Rattle.std.proofs.Common.{None, sym, subst}
use Rattle.nm_user.specs.Sessions.{IsThere}
use Rattle.nm_user.proofs.Passing.{there-forked}
use Rattle.vale_player.specs.Players.{PlayerState}
use Rattle.vale_player.proofs.KeptPorts.{forked-keeping}
use Rattle.vale_player.proofs.player.Player.fork.Goals as goal

pub invariant_of-self : goal.invariant_of-self
invariant_of-self c =
    forked-keeping c.self.inside.session c.fork.new.self c.self.inside.kept c.fork.ensures.kept
    (subst (IsThere None) (sym c.fork.ensures.kept) (there-forked c.self.invariant.there)) c.self.invariant

pub returns-clause-there : goal.returns-clause-there
returns-clause-there c = subst (λ (x : PlayerState). IsThere None x.session) c.self.view_is c.self.invariant.there
