use Rattle.vale_act.proofs.departing.learned_each_leaves.Goals as goal
use Rattle.vale_act.proofs.DepartingPasses.{learned-leaves}

pub returns : goal.returns
returns c = learned-leaves
