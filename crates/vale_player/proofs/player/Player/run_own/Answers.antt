use Rattle.std.proofs.Common.{◌≡◌, true, false, sym, ◌∙◌, subst}
use Rattle.vale_replay.specs.Replay.{has_line}
use Rattle.vale_player.specs.Inputs.{records_in}
use Rattle.vale_player.specs.Players.{PlayerState}
use Rattle.vale_player.proofs.LinesRun.{runs-none, runs-done, runs-stopped}
use Rattle.vale_player.proofs.player.Player.run_own.Goals as goal

pub returns-then-not-has_line : goal.returns-then-not-has_line
returns-then-not-has_line g c =
    let none : has_line c.args.lines.now c.self.inside.number ≡ false = sym c.has_line.ensures ∙ c.if-not-has_line.true in
    runs-none (records_in c.args.inputs.now) c.args.lines.now c.args.self.now (subst (λ (x : PlayerState). has_line c.args.lines.now x.number ≡ false) c.self.view_is none)

pub returns-in-Ok : goal.returns-in-Ok
returns-in-Ok g c =
    let has : has_line c.args.lines.now c.self.inside.number ≡ true = sym c.has_line.ensures ∙ c.if-not-has_line.false in
    let lines = subst (λ (x : PlayerState). has_line c.args.lines.now x.number ≡ true) c.self.view_is has in
    runs-done (records_in c.args.inputs.now) c.args.lines.now c.args.self.now c.run_lines.new.self lines c.run_lines.ensures.still c.in-Ok.ensures.does

pub returns-in-Err : goal.returns-in-Err
returns-in-Err g c =
    let has : has_line c.args.lines.now c.self.inside.number ≡ true = sym c.has_line.ensures ∙ c.if-not-has_line.false in
    let lines = subst (λ (x : PlayerState). has_line c.args.lines.now x.number ≡ true) c.self.view_is has in
    runs-stopped (records_in c.args.inputs.now) c.args.lines.now c.args.self.now c.run_lines.new.self c.in-Err.fault lines c.run_lines.ensures.still c.in-Err.ensures.stops
