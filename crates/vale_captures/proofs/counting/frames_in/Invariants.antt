use Rattle.std.proofs.Common.{◌≡◌, map, take, sum_by}
use Rattle.vale_replay.specs.Replay.{act_of}
use Rattle.vale_captures.specs.Counting.{frames_by}
use Rattle.vale_captures.proofs.counting.frames_in.Given as goal

abbrev pub invariant-loop-line : goal.invariant-loop-line
invariant-loop-line l = l.count ≡ sum_by (frames_by l.played) (map act_of (take l.line-index l.lines))
