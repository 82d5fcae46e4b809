use Rattle.vale_cost.proofs.completeness.switches_have_few_ports.Goals as goal
use Rattle.vale_cost.proofs.RoomSwitches.{switches-few}

pub returns : goal.returns
returns c = switches-few
