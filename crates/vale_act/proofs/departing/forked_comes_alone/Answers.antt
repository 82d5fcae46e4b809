use Rattle.vale_act.proofs.departing.forked_comes_alone.Goals as goal
use Rattle.vale_act.proofs.DepartingSeats.{forked-alone}

pub returns : goal.returns
returns c = forked-alone
