use Rattle.vale_entry.proofs.SharedOnce.{wanted-shared}
use Rattle.vale_entry.proofs.laws.wanted_is_shared_once.Goals as goal

pub returns : goal.returns
returns c = wanted-shared
