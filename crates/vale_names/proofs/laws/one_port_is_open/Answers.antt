use Rattle.vale_names.proofs.OrderLemmas.{one_is_open}
use Rattle.vale_names.proofs.laws.one_port_is_open.Goals as goal

pub returns : goal.returns
returns c = one_is_open
