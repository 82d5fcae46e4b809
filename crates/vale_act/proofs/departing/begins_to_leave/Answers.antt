use Rattle.vale_act.proofs.departing.begins_to_leave.Goals as goal
use Rattle.vale_act.proofs.DepartingSeats.{begins-leaving}

pub returns : goal.returns
returns c = begins-leaving
