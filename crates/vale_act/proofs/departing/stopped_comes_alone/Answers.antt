use Rattle.vale_act.proofs.departing.stopped_comes_alone.Goals as goal
use Rattle.vale_act.proofs.DepartingPlayers.{stopped-alone}

pub returns : goal.returns
returns c = stopped-alone
