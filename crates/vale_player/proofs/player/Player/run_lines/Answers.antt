use Rattle.std.proofs.Common.{ℕ, ◌≡◌, ◌+◌, ◌==◌, true, List, drop, map, sym, ap, subst, ◌∙◌, eq-eqb}
use Rattle.std.proofs.lemmas.Bool.{ne_eqb}
use Rattle.std.proofs.lemmas.Result.{err_from_is_err_and}
use Rattle.nm_types.specs.declared.fault.StepFault.{StepFault}
use Rattle.vale_script.specs.declared.script.Line.{Line}
use Rattle.vale_replay.specs.Replay.{act_of}
use Rattle.vale_player.specs.Deeds.{AreDoable, AllSaveNamed, SavesNamed}
use Rattle.vale_player.specs.Inputs.{records_in}
use Rattle.vale_player.specs.Players.{PlayerState, Stops}
use Rattle.vale_player.proofs.PlayerLines.{AreLeft, block_tasks, left-own, left-others, left-from, stops-own, next-left, lines-done}
use Rattle.vale_player.proofs.player.Player.run_lines.Goals as goal
use Rattle.vale_player.proofs.player.Player.run_lines.Goals.{then-line-self+in_ok-act, else-line-self}

pub returns-in_err-act-clause-stops : goal.returns-in_err-act-clause-stops
returns-in_err-act-clause-stops g c =
    let p = c.args.self.now in
    let line = c.line-item.result in
    let lines = c.args.lines.now in
    let before = left-from (records_in c.args.inputs.now) p.number p c.loop-line.self lines c.loop-line.line-index line c.loop-line-test.true c.line-item.is c.loop-line.invariant.left in
    let number : c.self.inside.number ≡ p.number = ap (λ (x : PlayerState). x.number) c.self.view_is ∙ c.loop-line.invariant.left.still.number in
    let own : (line.user == p.number) ≡ true = eq-eqb line.user p.number (c.if-line-self.true ∙ number) in
    let e = err_from_is_err_and c.from_residual.result c.from_residual.ensures.1 in
    let fault : StepFault = c.in_err-act.field-0.0 in
    let same : e.0 ≡ fault = e.2 in
    let all : Stops p c.act.new.self (block_tasks (records_in c.args.inputs.now) lines p.number) fault =
    stops-own (records_in c.args.inputs.now) p.number p c.loop-line.self line (drop (c.loop-line.line-index + 1) lines) lines before own c.act.new.self fault c.in_err-act.ensures.stops in
    rw (e.1, same) all

pub loop-line-preserved : goal.loop-line-preserved
loop-line-preserved g c =
    let records = records_in c.args.inputs.now in
    let lines = c.args.lines.now in
    let i = c.loop-line.line-index in
    let line = c.line-item.result in
    let p = c.args.self.now in
    let q = c.loop-line.self in
    let before = left-from records p.number p q lines i line c.loop-line-test.true c.line-item.is c.loop-line.invariant.left in
    let number : c.self.inside.number ≡ p.number = ap (λ (x : PlayerState). x.number) c.self.view_is ∙ c.loop-line.invariant.left.still.number in
    let rest = drop (i + 1) lines in
    let left : AreLeft records p.number p c.if-line-self.self rest lines = elim c.if-line-self.branch [
      | then-line-self+in_ok-act w ↦ subst (λ (x : PlayerState). AreLeft records p.number p x rest lines) (sym w.self-is)
          (left-own records p.number p q line rest lines before (eq-eqb line.user p.number (w.if-line-self.true ∙ number)) w.act.new.self w.in_ok-act.ensures.does w.act.ensures.still)
      | else-line-self w ↦ subst (λ (x : PlayerState). AreLeft records p.number p x rest lines) (sym w.self-is)
          (left-others records p.number p q line rest lines before (ne_eqb line.user p.number (λ same. w.if-line-self.false (same ∙ sym number))))
    ] in
    let next = next-left lines i line c.loop-line-test.true c.line-item.is in
    record {
      left = left;
      doable = (subst AreDoable next c.loop-line.invariant.doable).1;
      saves = (subst (λ (x : List Line). AllSaveNamed p.names (map act_of x)) next c.loop-line.invariant.saves).1;
    }

pub act-requires-clause-saves : goal.act-requires-clause-saves
act-requires-clause-saves g c κs within =
    let p = c.args.self.now in
    let line = c.line-item.result in
    let next = next-left c.args.lines.now c.loop-line.line-index line c.loop-line-test.true c.line-item.is in
    let here = (subst (λ (x : List Line). AllSaveNamed p.names (map act_of x)) next c.loop-line.invariant.saves).0 in
    subst (λ (names : List (List ℕ)). SavesNamed names line.act) (sym c.loop-line.invariant.left.still.names) here

pub returns-clause-does : goal.returns-clause-does
returns-clause-does g c =
    let p = c.args.self.now in
    lines-done (records_in c.args.inputs.now) p.number p c.loop-line.self c.args.lines.now c.loop-line.line-index c.loop-line-test.false c.loop-line.invariant.left
