use Rattle.vale_own.proofs.Moved.{buffers-moved}
use Rattle.vale_own.proofs.laws.buffers_are_moved.Goals as goal

pub returns : goal.returns
returns c = buffers-moved
