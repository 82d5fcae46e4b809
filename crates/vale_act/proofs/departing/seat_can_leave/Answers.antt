use Rattle.vale_act.proofs.departing.seat_can_leave.Goals as goal
use Rattle.vale_act.proofs.DepartingSeats.{seat-leaves}

pub returns : goal.returns
returns c = seat-leaves
