use Rattle.vale_entry.proofs.LotsOfEntries.{lots-of_entries}
use Rattle.vale_entry.proofs.laws.lots_are_of_entries.Goals as goal

pub returns : goal.returns
returns c = lots-of_entries
