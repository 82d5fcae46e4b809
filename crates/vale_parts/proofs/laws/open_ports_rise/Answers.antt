use Rattle.vale_parts.proofs.BatchWants.{open_ports_rise}
use Rattle.vale_parts.proofs.laws.open_ports_rise.Goals as goal

pub returns : goal.returns
returns c = open_ports_rise
