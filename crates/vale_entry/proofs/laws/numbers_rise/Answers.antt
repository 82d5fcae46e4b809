use Rattle.vale_entry.proofs.HistoryLaws.{numbers-rise}
use Rattle.vale_entry.proofs.laws.numbers_rise.Goals as goal

pub returns : goal.returns
returns c = numbers-rise
