use Rattle.vale_told.proofs.CountersTold.{tells-counters}
use Rattle.vale_told.proofs.laws.counters_are_told.Goals as goal

pub returns : goal.returns
returns c = tells-counters
