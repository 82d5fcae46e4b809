use Rattle.vale_act.proofs.departing.meeting_comes_alone.Goals as goal
use Rattle.vale_act.proofs.DepartingSeats.{meeting-alone}

pub returns : goal.returns
returns c = meeting-alone
