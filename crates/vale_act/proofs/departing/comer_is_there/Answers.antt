use Rattle.vale_act.proofs.departing.comer_is_there.Goals as goal
use Rattle.vale_act.proofs.DepartingPlayers.{comer-there}

pub returns : goal.returns
returns c = comer-there
