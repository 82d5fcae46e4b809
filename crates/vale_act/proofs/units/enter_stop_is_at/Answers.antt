use Rattle.vale_act.proofs.units.enter_stop_is_at.Goals as goal
use Rattle.vale_act.proofs.SharesWork.{enter-stop-at}

pub returns : goal.returns
returns c = enter-stop-at
