use Rattle.vale_entry.proofs.OutCounted.{out-counted}
use Rattle.vale_entry.proofs.laws.out_is_counted.Goals as goal

pub returns : goal.returns
returns c = out-counted
