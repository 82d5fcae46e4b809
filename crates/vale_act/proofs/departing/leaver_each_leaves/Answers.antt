use Rattle.vale_act.proofs.departing.leaver_each_leaves.Goals as goal
use Rattle.vale_act.proofs.DepartingPlayers.{leaver-leaves}

pub returns : goal.returns
returns c = leaver-leaves
