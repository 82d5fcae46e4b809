use Rattle.std.proofs.Common.{◌≡◌, flat_map, take, sum_by}
use Rattle.vale_replay.specs.Saved.{acts_of_unit}
use Rattle.vale_captures.specs.Counting.{frames_by}
use Rattle.vale_captures.proofs.counting.frames_by_lines.Given as goal

abbrev pub invariant-loop-unit : goal.invariant-loop-unit
invariant-loop-unit l = l.count ≡ sum_by (frames_by l.played) (flat_map acts_of_unit (take l.unit-index l.unit-items))
