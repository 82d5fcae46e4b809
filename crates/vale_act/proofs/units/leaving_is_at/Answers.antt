use Rattle.vale_act.proofs.units.leaving_is_at.Goals as goal
use Rattle.vale_act.proofs.SharesWork.{leaving-at}

pub returns : goal.returns
returns c = leaving-at
