use Rattle.std.proofs.Common.{◌≤◌, ◌-◌}
use Rattle.nm_port.specs.Exchanges.{KeepFirst}
use Rattle.nm_port.proofs.kept.count_kept.Given as goal

abbrev pub invariant-loop-k : goal.invariant-loop-k
invariant-loop-k l = (l.k ≤ l.count) × KeepFirst l.ring l.numbers l.k

abbrev pub decreases-loop-k : goal.decreases-loop-k
decreases-loop-k l = l.count - l.k
