use Rattle.vale_captures.proofs.Few.{counts-few}
use Rattle.vale_captures.proofs.counting.counts_are_few.Goals as goal

pub returns : goal.returns
returns c = counts-few
