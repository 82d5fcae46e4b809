use Rattle.vale_act.proofs.units.entering_is_at.Goals as goal
use Rattle.vale_act.proofs.SharesWork.{entering-at}

pub returns : goal.returns
returns c = entering-at
