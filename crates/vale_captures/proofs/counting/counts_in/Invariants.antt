use Rattle.std.proofs.Common.{◌≡◌, map, take, sum_by}
use Rattle.vale_replay.specs.Replay.{act_of}
use Rattle.vale_captures.specs.Counting.{count_of}
use Rattle.vale_captures.proofs.counting.counts_in.Given as goal

abbrev pub invariant-loop-line : goal.invariant-loop-line
invariant-loop-line l = l.count ≡ sum_by count_of (map act_of (take l.line-index l.lines))
