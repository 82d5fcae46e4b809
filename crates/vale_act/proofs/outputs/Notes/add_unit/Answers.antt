use Rattle.std.proofs.Common.{sym, subst}
use Rattle.vale_script.specs.declared.script.Unit.{Unit as Part}
use Rattle.vale_replay.specs.Saved.{acts_of_unit}
use Rattle.vale_act.specs.SavedActs.{Adds}
use Rattle.vale_act.proofs.outputs.Notes.add_unit.Goals as goal

pub returns-in-Single : goal.returns-in-Single
returns-in-Single c =
    subst (λ (part : Part). Adds c.args.self.now (acts_of_unit part) c.args.outputs.now.items c.add_act.new.outputs.items c.add_act.result) (sym c.in-Single.is) c.add_act.ensures
