use Rattle.std.proofs.Common.{◌≡◌, IfSome}
use Rattle.nm_io.proofs.raw.read_part.Given as goal

abbrev pub invariant-tries : goal.invariant-tries
invariant-tries g l = let raw = g.F.RawRead in record {
  contents : raw.contents l.from ≡ raw.contents l.fn.from;
  place : IfSome (raw.contents l.fn.from) (λ _. raw.place l.from ≡ l.at);
}
