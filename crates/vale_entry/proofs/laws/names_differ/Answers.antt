use Rattle.vale_entry.proofs.NamesApart.{names-differ}
use Rattle.vale_entry.proofs.laws.names_differ.Goals as goal

pub returns : goal.returns
returns c = names-differ
