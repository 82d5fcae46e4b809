use Rattle.std.proofs.Common.{refl, sym, subst, ◌∙◌}
use Rattle.vale_replay.specs.Tasks.{Task, OpenPort}
use Rattle.vale_player.specs.Players.{PlayerState, HasCalled}
use Rattle.vale_player.proofs.PortCalls.{opens-ok, opens-err, opens-there}
use Rattle.vale_player.proofs.KeptSaves.{opened-keeping}
use Rattle.vale_player.proofs.player.Player.open.Goals as goal
use Rattle.vale_player.proofs.player.Player.open.Goals.{in-Ok, in-Err}

pub invariant_of-self : goal.invariant_of-self
invariant_of-self g c =
    let p : PlayerState = record { number = c.self.inside.number; session = c.self.inside.session; saves = c.self.inside.saves.items; names = c.self.inside.names.now } in
    let q : PlayerState = record p { session = c.open-opened.new.self } in
    let there = opens-there p q c.self.invariant.there refl c.args.name.now c.args.tx c.args.rx c.args.extra c.open-opened.result c.open-opened.ensures.made c.open-opened.ensures.unopened in
    opened-keeping p.session q.session c.self.invariant.there there c.args.name.now c.args.tx c.args.rx c.args.extra c.self.inside.names.now c.open-opened.result p.saves c.self.inside.kept _
    c.open-opened.ensures.made c.open-opened.ensures.port c.open-opened.ensures.unopened c.open.ensures c.self.invariant

pub returns : goal.returns
returns g c =
    let p : PlayerState = record { number = c.self.inside.number; session = c.self.inside.session; saves = c.self.inside.saves.items; names = c.self.inside.names.now } in
    let q : PlayerState = record p { session = c.open-opened.new.self } in
    let task : Task = OpenPort c.args.name.now c.args.tx c.args.rx c.args.extra in
    let called : HasCalled p q task c.match-opened.result = elim c.match-opened.branch [
      | in-Ok w ↦ subst (HasCalled p q task) (sym w.result-is)
          (opens-ok p q c.self.invariant.there refl c.args.name.now c.args.tx c.args.rx c.args.extra c.open-opened.result c.open-opened.ensures.made c.open-opened.ensures.unopened w.in-Ok.is)
      | in-Err w ↦ subst (HasCalled p q task) (sym (w.result-is ∙ w.unless_refused.ensures))
          (opens-err p q c.self.invariant.there refl c.args.name.now c.args.tx c.args.rx c.args.extra c.open-opened.result c.open-opened.ensures.made c.open-opened.ensures.unopened w.in-Err.is)
    ] in
    subst (λ (x : PlayerState). HasCalled x q task c.match-opened.result) c.self.view_is called
