use Rattle.vale_act.proofs.departing.nobody_has_come.Goals as goal
use Rattle.vale_act.proofs.DepartingPasses.{nobody-came}

pub returns : goal.returns
returns c = nobody-came
