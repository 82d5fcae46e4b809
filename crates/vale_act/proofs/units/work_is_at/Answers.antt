use Rattle.vale_act.proofs.units.work_is_at.Goals as goal
use Rattle.vale_act.proofs.SharesWork.{work-at}

pub returns : goal.returns
returns c = work-at
