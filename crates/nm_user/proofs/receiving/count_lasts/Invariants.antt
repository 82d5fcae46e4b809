use Rattle.std.proofs.Common.{◌≡◌, ◌+◌, drop}
use Rattle.std.specs.Prelude.{sum_by}
use Rattle.vale_line.specs.Gots.{last_count}
use Rattle.nm_user.proofs.receiving.count_lasts.Given as goal

abbrev pub invariant-loop-i : goal.invariant-loop-i
invariant-loop-i l = l.count + sum_by last_count (drop l.i l.gots) ≡ sum_by last_count l.gots
