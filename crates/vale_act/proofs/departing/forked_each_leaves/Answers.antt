use Rattle.vale_act.proofs.departing.forked_each_leaves.Goals as goal
use Rattle.vale_act.proofs.DepartingPasses.{forked-leaves}

pub returns : goal.returns
returns c = forked-leaves
