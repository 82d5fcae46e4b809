use Rattle.vale_own.proofs.Arriving.{buffers-come-new}
use Rattle.vale_own.proofs.laws.buffers_come_new.Goals as goal

pub returns : goal.returns
returns c = buffers-come-new
