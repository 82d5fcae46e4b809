use Rattle.std.proofs.Common.{◌≡◌, ◌*◌, length}
use Rattle.std.specs.Prelude.{All}
use Rattle.nm_types.specs.Sendable.{IsFrame}
use Rattle.bench.proofs.batch.make_batch.Given as goal

abbrev pub invariant-loop-pair : goal.invariant-loop-pair
invariant-loop-pair l = record {
  frames : All IsFrame l.batch;
  count : length l.batch ≡ 2 * l.pair;
}
