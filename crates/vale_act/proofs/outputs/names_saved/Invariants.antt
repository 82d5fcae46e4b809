use Rattle.std.proofs.Common.{◌≡◌, take}
use Rattle.std.specs.Prelude.{flat_map}
use Rattle.vale_replay.specs.Saved.{acts_of_unit}
use Rattle.vale_act.specs.SavedActs.{names_of_acts}
use Rattle.vale_act.proofs.outputs.names_saved.Given as goal

abbrev pub invariant-loop-unit : goal.invariant-loop-unit
invariant-loop-unit l = l.names.items ≡ names_of_acts (flat_map acts_of_unit (take l.unit-index l.unit-items))
