use Rattle.vale_act.proofs.units.stop_is_at.Goals as goal
use Rattle.vale_act.proofs.SharesWork.{stop-at}

pub returns : goal.returns
returns c = stop-at
