use Rattle.vale_entry.proofs.Waiting.{finish-waits}
use Rattle.vale_entry.proofs.laws.finish_waits_for_leases.Goals as goal

pub returns : goal.returns
returns c = finish-waits
