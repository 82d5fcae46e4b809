use Rattle.vale_entry.proofs.Puts.{puts-once}
use Rattle.vale_entry.proofs.laws.puts_bring_once.Goals as goal

pub returns : goal.returns
returns c = puts-once
