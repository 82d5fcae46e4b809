use Rattle.vale_act.proofs.units.front_is_free.Goals as goal
use Rattle.vale_act.proofs.SharesPasses.{front-free}

pub returns : goal.returns
returns c = front-free
