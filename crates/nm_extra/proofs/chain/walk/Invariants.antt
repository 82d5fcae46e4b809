use Rattle.std.proofs.Common.{◌≡◌, ◌-◌, length}
use Rattle.nm_types.specs.Limits.{most_extra}
use Rattle.nm_extra.proofs.Walks.{Walked}
use Rattle.nm_extra.proofs.chain.walk.Given as goal

abbrev pub invariant-loop-found : goal.invariant-loop-found
invariant-loop-found l = record {
  walked : Walked l.hold l.port l.head l.extras l.found l.at l.met;
  size : length l.met ≡ most_extra;
}

abbrev pub decreases-loop-found : goal.decreases-loop-found
decreases-loop-found l = l.extras - l.found
