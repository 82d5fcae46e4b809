use Rattle.std.proofs.Common.{◌≤◌, length}
use Rattle.std.specs.Prelude.{All}
use Rattle.nm_types.specs.Sendable.{IsFrame}
use Rattle.switch_tests.proofs.batches.batch_of.Given as goal

abbrev pub invariant-loop-at : goal.invariant-loop-at
invariant-loop-at g l = record {
  frames : All IsFrame l.batch;
  few : length l.batch ≤ l.at;
}
