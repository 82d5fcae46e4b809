use Rattle.std.proofs.Common.{map, take, [], ◌∷◌, ◌+◌, ◌∙◌, ap}
use Rattle.std.proofs.lemmas.List.{map-append}
use Rattle.vale_replay.specs.Replay.{act_of}
use Rattle.vale_act.proofs.ActOutputs.{names-then, one-more-of}
use Rattle.vale_act.proofs.outputs.add_names.Goals as goal

pub loop-line-preserved : goal.loop-line-preserved
loop-line-preserved c =
    let lines = c.args.lines.now in
    let i = c.loop-line.line-index in
    let line = c.line-item.result in
    names-then (map act_of (take i lines)) (line.act ∷ []) (map act_of (take (i + 1) lines)) c.args.names.now.items c.loop-line.names.items c.add_name.new.names.items
    (ap (map act_of) (one-more-of lines i line c.loop-line-test.true c.line-item.is) ∙ map-append act_of (take i lines) (line ∷ [])) c.loop-line.invariant c.in_ok-add_name.ensures
