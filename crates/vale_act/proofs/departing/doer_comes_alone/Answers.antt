use Rattle.vale_act.proofs.departing.doer_comes_alone.Goals as goal
use Rattle.vale_act.proofs.DepartingPlayers.{doer-alone}

pub returns : goal.returns
returns c = doer-alone
