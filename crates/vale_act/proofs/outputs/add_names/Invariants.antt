use Rattle.std.proofs.Common.{◌≡◌, ◌++◌, map, take}
use Rattle.vale_replay.specs.Replay.{act_of}
use Rattle.vale_act.specs.SavedActs.{names_of_acts}
use Rattle.vale_act.proofs.outputs.add_names.Given as goal

abbrev pub invariant-loop-line : goal.invariant-loop-line
invariant-loop-line l = l.names.items ≡ l.fn.names.items ++ names_of_acts (map act_of (take l.line-index l.fn.lines))
