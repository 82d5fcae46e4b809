use Rattle.vale_act.proofs.departing.runner_comes_alone.Goals as goal
use Rattle.vale_act.proofs.DepartingPlayers.{runner-alone}

pub returns : goal.returns
returns c = runner-alone
