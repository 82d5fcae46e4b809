use Rattle.std.proofs.Common.{sym, subst}
use Rattle.vale_fabric.specs.Fabrics.{knowing}
use Rattle.nm_user.specs.Sessions.{SessionState, session_seen}
use Rattle.nm_user.specs.Ports.{IsMonitorOn}
use Rattle.nm_user.proofs.Plain.{may}
use Rattle.nm_user.proofs.Watched.{watch-asks, watch-there}
use Rattle.nm_user.proofs.Written.{session-passed}
use Rattle.nm_user.proofs.session.Session.watch.Goals as goal

pub watch-requires-clause-may : goal.watch-requires-clause-may
watch-requires-clause-may g c =
    let monitor = subst (λ (s : SessionState). IsMonitorOn s.own c.args.monitor.0) (sym c.self.view_is) c.requires.monitor in
    may c.self.invariant.there (watch-asks c.args.monitor c.args.target.now c.args.sides c.self.invariant.there monitor c.requires.target)

pub invariant_of-self : goal.invariant_of-self
invariant_of-self g c =
    let monitor = subst (λ (s : SessionState). IsMonitorOn s.own c.args.monitor.0) (sym c.self.view_is) c.requires.monitor in
    let asks = watch-asks c.args.monitor c.args.target.now c.args.sides c.self.invariant.there monitor c.requires.target in
    session-passed c.self.invariant c.watch.ensures.pass
    (watch-there (session_seen c.self.inside) (knowing c.watch.new.pass) c.args.monitor c.args.target.now c.args.sides c.watch.result c.self.invariant.there asks c.watch.ensures.watched c.watch.ensures.unwatched)
