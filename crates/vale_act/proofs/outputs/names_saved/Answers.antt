use Rattle.std.proofs.Common.{take, [], ◌∷◌, ◌++◌, ◌+◌, ◌∙◌, List, ap, append-nil}
use Rattle.std.specs.Prelude.{flat_map}
use Rattle.std.proofs.lemmas.Grind.{flat_map-append}
use Rattle.vale_script.specs.declared.script.Act.{Act}
use Rattle.vale_replay.specs.Saved.{acts_of_unit}
use Rattle.vale_act.proofs.ActOutputs.{names-then, one-more-of}
use Rattle.vale_act.proofs.outputs.names_saved.Goals as goal

pub loop-unit-preserved : goal.loop-unit-preserved
loop-unit-preserved c =
    let units = c.units-unit-items.result.now in
    let i = c.loop-unit.unit-index in
    let unit = c.unit-item.result in
    names-then (flat_map acts_of_unit (take i units)) (acts_of_unit unit) (flat_map acts_of_unit (take (i + 1) units)) [] c.loop-unit.names.items c.add_unit_names.new.names.items
    (ap (flat_map acts_of_unit) (one-more-of units i unit c.loop-unit-test.true c.unit-item.is)
    ∙ (flat_map-append acts_of_unit (take i units) (unit ∷ []) ∙ ap (λ (acts : List Act). flat_map acts_of_unit (take i units) ++ acts) (append-nil (acts_of_unit unit))))
    c.loop-unit.invariant c.in_ok-add_unit_names.ensures
