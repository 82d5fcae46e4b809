use Rattle.vale_act.proofs.departing.met_each_leaves.Goals as goal
use Rattle.vale_act.proofs.DepartingPasses.{met-leaves}

pub returns : goal.returns
returns c = met-leaves
