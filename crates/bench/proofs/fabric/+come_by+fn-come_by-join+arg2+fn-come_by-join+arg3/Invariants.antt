use Rattle.std.proofs.Common.{◌+◌, ◌*◌, ◌/◌}
use Rattle.bench.proofs.fabric.+come_by+fn-come_by-join+arg2+fn-come_by-join+arg3.Given as goal

-- each half takes half of the threads
abbrev pub decreases-come_by : goal.decreases-come_by
decreases-come_by g l = 2 * l.threads

abbrev pub decreases-join+arg2 : goal.decreases-join+arg2
decreases-join+arg2 g l = 2 * (l.threads / 2) + 1

abbrev pub decreases-join+arg3 : goal.decreases-join+arg3
decreases-join+arg3 g l = 2 * (l.threads / 2) + 1
