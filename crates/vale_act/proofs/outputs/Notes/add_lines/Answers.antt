use Rattle.std.proofs.Common.{◌≡◌, List, map, take, [], ◌∷◌, ◌+◌, ◌∙◌, ap, subst, arith}
use Rattle.std.proofs.lemmas.List.{map-append, take_all}
use Rattle.vale_script.specs.declared.script.Line.{Line}
use Rattle.vale_replay.specs.Replay.{act_of}
use Rattle.vale_act.specs.SavedActs.{OutputsAre}
use Rattle.vale_act.proofs.ActOutputs.{acts-then, one-more-of}
use Rattle.vale_act.proofs.outputs.Notes.add_lines.Goals as goal

pub loop-line-preserved : goal.loop-line-preserved
loop-line-preserved c =
    let lines = c.args.lines.now in
    let line = c.line-item.result in
    record {
      made = acts-then c.args.self.now.saves.now c.args.self.now.kept.now (map act_of (take c.loop-line.line-index lines)) (line.act ∷ []) (map act_of (take (c.loop-line.line-index + 1) lines)) c.args.outputs.now.items c.loop-line.outputs.items c.add_act.new.outputs.items
          (ap (map act_of) (one-more-of lines c.loop-line.line-index line c.loop-line-test.true c.line-item.is) ∙ map-append act_of (take c.loop-line.line-index lines) (line ∷ [])) c.loop-line.invariant.made c.in_ok-add_act.ensures.made;
      writable = λ old. c.in_ok-add_act.ensures.writable (c.loop-line.invariant.writable old);
    }

pub returns : goal.returns
returns c =
    let notes = c.args.self.now in
    let whole : take c.loop-line.line-index c.args.lines.now ≡ c.args.lines.now =
    take_all c.loop-line.line-index c.args.lines.now (omega (arith, c.loop-line-test.false)) in
    record {
      made = subst (λ (lines : List Line). OutputsAre notes.saves.now notes.kept.now (map act_of lines) c.args.outputs.now.items c.loop-line.outputs.items) whole c.loop-line.invariant.made;
      writable = c.loop-line.invariant.writable;
    }
