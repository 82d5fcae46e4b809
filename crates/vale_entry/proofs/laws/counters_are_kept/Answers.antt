use Rattle.vale_entry.proofs.CountersKept.{counters-kept}
use Rattle.vale_entry.proofs.laws.counters_are_kept.Goals as goal

pub returns : goal.returns
returns c = counters-kept
