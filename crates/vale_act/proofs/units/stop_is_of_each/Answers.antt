use Rattle.vale_act.proofs.units.stop_is_of_each.Goals as goal
use Rattle.vale_act.proofs.SharesEach.{stop-of-each}

pub returns : goal.returns
returns c = stop-of-each
