use Rattle.std.proofs.Common.{◌≡◌}
use Rattle.nm_io.proofs.raw.write_part.Given as goal

abbrev pub invariant-tries : goal.invariant-tries
invariant-tries g l = let raw = g.W.RawWrite in raw.written l.to ≡ raw.written l.fn.to
