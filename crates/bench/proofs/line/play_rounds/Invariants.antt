use Rattle.std.proofs.Common.{◌≤◌, ◌*◌}
use Rattle.bench.specs.Rounds.{IsAtRest}
use Rattle.bench.proofs.line.play_rounds.Given as goal

abbrev pub invariant-loop-round : goal.invariant-loop-round
invariant-loop-round l = record {
  rest : IsAtRest l.region l.line l.back.items;
  frames : l.frames ≤ 64 * l.round;
}
