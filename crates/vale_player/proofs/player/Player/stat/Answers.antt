use Rattle.std.proofs.Common.{◌≡◌, None, option_map, refl, sym, subst, ◌∙◌}
use Rattle.nm_types.specs.OwnPorts.{port_with_name}
use Rattle.nm_user.specs.Sessions.{IsThere}
use Rattle.vale_replay.specs.Tasks.{Task, ReadCounts}
use Rattle.vale_player.specs.Players.{PlayerState, HasCalled}
use Rattle.vale_player.proofs.Changes.{id-of}
use Rattle.vale_player.proofs.PortCalls.{found-port, is-some, passed, reads-ok, reads-err, reads-there}
use Rattle.vale_player.proofs.PortNames.{named-stay, stat-ports}
use Rattle.vale_player.proofs.KeptPorts.{keeping, stat-saves}
use Rattle.vale_player.proofs.player.Player.stat.Goals as goal
use Rattle.vale_player.proofs.player.Player.stat.Goals.{in-Ok, in-Err}

pub returns-in_default : goal.returns-in_default
returns-in_default g c =
    let none : option_map id-of (port_with_name c.self.inside.session.own c.args.name.now) ≡ None = sym c.port_named.ensures ∙ c.in_default.is in
    let gone = subst (λ (x : PlayerState). option_map id-of (port_with_name x.session.own c.args.name.now) ≡ None) c.self.view_is none in
    passed c.args.self.now c.args.name.now (ReadCounts c.args.name.now) (subst (λ (x : PlayerState). IsThere None x.session) c.self.view_is c.self.invariant.there) refl gone

pub stats-requires : goal.stats-requires
stats-requires g c =
    let own = c.self.inside.session.own in
    is-some own c.args.name.now c.in-Some.port (found-port own c.args.name.now c.in-Some.port c.self.invariant.there.side.sound (sym c.port_named.ensures ∙ c.in-Some.is))

pub invariant_of-self : goal.invariant_of-self
invariant_of-self g c =
    let p : PlayerState = record { number = c.self.inside.number; session = c.self.inside.session; saves = c.self.inside.saves.items; names = c.self.inside.names.now } in
    let q : PlayerState = record p { session = c.stats.new.self } in
    keeping p.session q.session c.self.inside.kept
    (reads-there p q c.self.invariant.there refl c.args.name.now c.in-Some.port (sym c.port_named.ensures ∙ c.in-Some.is) c.stats.result c.stats.ensures.made c.stats.ensures.full)
    (stat-saves p.session q.session c.self.invariant.there c.in-Some.port c.stats.result c.stats.ensures.made c.stats.ensures.full)
    (named-stay p.names c.self.inside.kept p.session q.session (stat-ports p.session q.session c.in-Some.port c.stats.result c.stats.ensures.made c.stats.ensures.full)) c.self.invariant

pub returns : goal.returns
returns g c =
    let p : PlayerState = record { number = c.self.inside.number; session = c.self.inside.session; saves = c.self.inside.saves.items; names = c.self.inside.names.now } in
    let q : PlayerState = record p { session = c.stats.new.self } in
    let task : Task = ReadCounts c.args.name.now in
    subst (λ (x : PlayerState). HasCalled x q task c.match-stats.result) c.self.view_is (elim c.match-stats.branch [
      | in-Ok w ↦ subst (HasCalled p q task) (sym w.result-is)
          (reads-ok p q c.self.invariant.there refl c.args.name.now c.in-Some.port (sym c.port_named.ensures ∙ c.in-Some.is) c.stats.result c.stats.ensures.made c.stats.ensures.full w.in-Ok.is)
      | in-Err w ↦ subst (HasCalled p q task) (sym w.result-is)
          (reads-err p q c.self.invariant.there refl c.args.name.now c.in-Some.port (sym c.port_named.ensures ∙ c.in-Some.is) c.stats.result c.stats.ensures.made c.stats.ensures.full w.in-Err.is)
    ])
