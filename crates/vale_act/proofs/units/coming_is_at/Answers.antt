use Rattle.vale_act.proofs.units.coming_is_at.Goals as goal
use Rattle.vale_act.proofs.SharesWork.{coming-at}

pub returns : goal.returns
returns c = coming-at
