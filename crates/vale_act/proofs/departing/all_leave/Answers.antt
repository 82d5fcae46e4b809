use Rattle.vale_act.proofs.departing.all_leave.Goals as goal
use Rattle.vale_act.proofs.DepartingHistory.{all-leave}

pub returns : goal.returns
returns c = all-leave
