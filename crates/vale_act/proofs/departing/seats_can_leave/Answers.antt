use Rattle.vale_act.proofs.departing.seats_can_leave.Goals as goal
use Rattle.vale_act.proofs.DepartingSeats.{seats-leave}

pub returns : goal.returns
returns c = seats-leave
