use Rattle.vale_entry.proofs.Enabled.{asks-answered}
use Rattle.vale_entry.proofs.laws.asks_are_answered.Goals as goal

pub returns : goal.returns
returns c = asks-answered
