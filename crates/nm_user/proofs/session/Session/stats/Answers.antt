use Rattle.std.proofs.Common.{subst, sym, IsSome}
use Rattle.nm_types.specs.OwnPorts.{port_with_id}
use Rattle.nm_user.specs.Sessions.{SessionState}
use Rattle.nm_user.proofs.Plain.{may, stat-asks, stat-there}
use Rattle.nm_user.proofs.Written.{session-passed}
use Rattle.nm_user.proofs.session.Session.stats.Goals as goal

pub stats-requires-clause-may : goal.stats-requires-clause-may
stats-requires-clause-may g c =
    may c.self.invariant.there (stat-asks c.args.port c.self.invariant.there (subst (λ (s : SessionState). IsSome (port_with_id s.own c.args.port.0)) (sym c.self.view_is) c.requires))

pub invariant_of-self : goal.invariant_of-self
invariant_of-self g c =
    session-passed c.self.invariant c.stats.ensures.pass
    (stat-there c.args.port c.stats.result c.self.invariant.there (subst (λ (s : SessionState). IsSome (port_with_id s.own c.args.port.0)) (sym c.self.view_is) c.requires) c.stats.ensures.made c.stats.ensures.full)
