use Rattle.vale_entry.proofs.KeptPuts.{puts-kept}
use Rattle.vale_entry.proofs.laws.puts_are_kept.Goals as goal

pub returns : goal.returns
returns c = puts-kept
