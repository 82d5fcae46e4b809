use Rattle.std.proofs.Common.{take}
use Rattle.std.specs.Prelude.{flat_map}
use Rattle.std.specs.List.{AllByRecursion}
use Rattle.vale_captures.specs.Outputs.{IsWritable}
use Rattle.vale_replay.specs.Saved.{acts_of_unit}
use Rattle.vale_act.specs.SavedActs.{OutputsAre}
use Rattle.vale_act.proofs.outputs.Notes.add_units.Given as goal

abbrev pub invariant-loop-unit : goal.invariant-loop-unit
invariant-loop-unit l = record {
  made : OutputsAre l.fn.self.saves.now l.fn.self.kept.now (flat_map acts_of_unit (take l.unit-index l.fn.units)) l.fn.outputs.items l.outputs.items;
  writable : AllByRecursion IsWritable l.fn.outputs.items → AllByRecursion IsWritable l.outputs.items;
}
