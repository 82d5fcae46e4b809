use Rattle.vale_entry.proofs.Freeing.{free-returns}
use Rattle.vale_entry.proofs.laws.free_buffers_return.Goals as goal

pub returns : goal.returns
returns c = free-returns
