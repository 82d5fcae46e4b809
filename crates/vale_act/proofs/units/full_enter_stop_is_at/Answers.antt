use Rattle.vale_act.proofs.units.full_enter_stop_is_at.Goals as goal
use Rattle.vale_act.proofs.SharesWork.{full-enter-stop-at}

pub returns : goal.returns
returns c = full-enter-stop-at
