use Rattle.vale_act.proofs.departing.learner_comes_alone.Goals as goal
use Rattle.vale_act.proofs.DepartingSeats.{learner-alone}

pub returns : goal.returns
returns c = learner-alone
