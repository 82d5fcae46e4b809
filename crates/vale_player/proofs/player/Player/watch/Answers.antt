use Rattle.std.proofs.Common.{◌≡◌, None, option_map, refl, sym, subst, ◌∙◌}
use Rattle.nm_types.specs.OwnPorts.{port_with_name}
use Rattle.nm_user.specs.Sessions.{IsThere}
use Rattle.vale_replay.specs.Tasks.{Task, WatchPort}
use Rattle.vale_player.specs.Players.{PlayerState, HasCalled}
use Rattle.vale_player.proofs.Changes.{id-of}
use Rattle.vale_player.proofs.PortCalls.{found-port, is-monitor, passed, watches-ok, watches-err, watches-there}
use Rattle.vale_player.proofs.PortNames.{named-stay, watch-ports}
use Rattle.vale_player.proofs.KeptPorts.{keeping, watch-saves}
use Rattle.vale_player.proofs.player.Player.watch.Goals as goal
use Rattle.vale_player.proofs.player.Player.watch.Goals.{in-Ok, in-Err}

pub returns-in_default : goal.returns-in_default
returns-in_default g c =
    let none : option_map id-of (port_with_name c.self.inside.session.own c.args.monitor.now) ≡ None = sym c.port_named.ensures ∙ c.in_default.is in
    let gone = subst (λ (x : PlayerState). option_map id-of (port_with_name x.session.own c.args.monitor.now) ≡ None) c.self.view_is none in
    passed c.args.self.now c.args.monitor.now (WatchPort c.args.monitor.now c.args.target.now c.args.sides) (subst (λ (x : PlayerState). IsThere None x.session) c.self.view_is c.self.invariant.there) refl gone

pub watch-requires-clause-monitor : goal.watch-requires-clause-monitor
watch-requires-clause-monitor g c =
    let own = c.self.inside.session.own in
    is-monitor own c.args.monitor.now c.in-Some.port (found-port own c.args.monitor.now c.in-Some.port c.self.invariant.there.side.sound (sym c.port_named.ensures ∙ c.in-Some.is)) c.requires.monitor

pub invariant_of-self : goal.invariant_of-self
invariant_of-self g c =
    let p : PlayerState = record { number = c.self.inside.number; session = c.self.inside.session; saves = c.self.inside.saves.items; names = c.self.inside.names.now } in
    let q : PlayerState = record p { session = c.watch.new.self } in
    keeping p.session q.session c.self.inside.kept
    (watches-there p q c.self.invariant.there refl c.args.monitor.now c.in-Some.port (sym c.port_named.ensures ∙ c.in-Some.is) c.args.target.now c.args.sides c.watch.result c.watch.ensures.watched c.watch.ensures.unwatched)
    (watch-saves p.session q.session c.self.invariant.there c.in-Some.port c.args.target.now c.args.sides c.watch.result c.watch.ensures.watched c.watch.ensures.unwatched)
    (named-stay p.names c.self.inside.kept p.session q.session (watch-ports p.session q.session c.in-Some.port c.args.target.now c.args.sides c.watch.result c.watch.ensures.watched c.watch.ensures.unwatched)) c.self.invariant

pub returns : goal.returns
returns g c =
    let p : PlayerState = record { number = c.self.inside.number; session = c.self.inside.session; saves = c.self.inside.saves.items; names = c.self.inside.names.now } in
    let q : PlayerState = record p { session = c.watch.new.self } in
    let task : Task = WatchPort c.args.monitor.now c.args.target.now c.args.sides in
    subst (λ (x : PlayerState). HasCalled x q task c.match-watch.result) c.self.view_is (elim c.match-watch.branch [
      | in-Ok w ↦ subst (HasCalled p q task) (sym w.result-is)
          (watches-ok p q c.self.invariant.there refl c.args.monitor.now c.in-Some.port (sym c.port_named.ensures ∙ c.in-Some.is) c.args.target.now c.args.sides c.watch.result c.watch.ensures.watched c.watch.ensures.unwatched w.in-Ok.is)
      | in-Err w ↦ subst (HasCalled p q task) (sym (w.result-is ∙ w.unless_told.ensures))
          (watches-err p q c.self.invariant.there refl c.args.monitor.now c.in-Some.port (sym c.port_named.ensures ∙ c.in-Some.is) c.args.target.now c.args.sides c.watch.result c.watch.ensures.watched c.watch.ensures.unwatched w.in-Err.is)
    ])
