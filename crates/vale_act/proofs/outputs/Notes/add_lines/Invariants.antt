use Rattle.std.proofs.Common.{map, take}
use Rattle.std.specs.List.{AllByRecursion}
use Rattle.vale_captures.specs.Outputs.{IsWritable}
use Rattle.vale_replay.specs.Replay.{act_of}
use Rattle.vale_act.specs.SavedActs.{OutputsAre}
use Rattle.vale_act.proofs.outputs.Notes.add_lines.Given as goal

abbrev pub invariant-loop-line : goal.invariant-loop-line
invariant-loop-line l = record {
  made : OutputsAre l.fn.self.saves.now l.fn.self.kept.now (map act_of (take l.line-index l.fn.lines)) l.fn.outputs.items l.outputs.items;
  writable : AllByRecursion IsWritable l.fn.outputs.items → AllByRecursion IsWritable l.outputs.items;
}
