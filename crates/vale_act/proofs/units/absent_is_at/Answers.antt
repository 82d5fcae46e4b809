use Rattle.vale_act.proofs.units.absent_is_at.Goals as goal
use Rattle.vale_act.proofs.SharesWork.{absent-at}

pub returns : goal.returns
returns c = absent-at
