use Rattle.std.proofs.Common.{List, [], subst, ◌∙◌}
use Rattle.std.specs.Prelude.{flat_map}
use Rattle.vale_captures.specs.Outputs.{OutputFile}
use Rattle.vale_script.specs.declared.script.Unit.{Unit as Part}
use Rattle.vale_replay.specs.Saved.{acts_of_unit}
use Rattle.vale_act.specs.SavedActs.{OutputsAre}
use Rattle.vale_act.proofs.ActOutputs.{whole-outputs}
use Rattle.vale_act.proofs.outputs.outputs.Goals as goal

pub returns-clause-made : goal.returns-clause-made
returns-clause-made c history users same whole =
    let saves = c.args.saves.now in
    let kept = c.args.kept.now in
    let made = c.add_units.new.outputs.items in
    let begun = subst (λ (old : List OutputFile). OutputsAre saves kept (flat_map acts_of_unit c.units.result.now) old made) c.new-files.ensures.items c.in_ok-add_units.ensures.made in
    let are = subst (λ (parts : List Part). OutputsAre saves kept (flat_map acts_of_unit parts) [] made) c.units.ensures begun in
    c.into.ensures ∙ whole-outputs c.args.script.now history users saves kept made same whole are
