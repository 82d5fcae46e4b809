use Rattle.vale_act.proofs.units.full_stop_is_at.Goals as goal
use Rattle.vale_act.proofs.SharesWork.{full-stop-at}

pub returns : goal.returns
returns c = full-stop-at
