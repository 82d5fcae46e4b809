use Rattle.vale_entry.proofs.CountersSummed.{counters-sums}
use Rattle.vale_entry.proofs.laws.counters_are_sums.Goals as goal

pub returns : goal.returns
returns c = counters-sums
