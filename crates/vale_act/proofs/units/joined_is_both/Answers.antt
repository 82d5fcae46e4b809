use Rattle.vale_act.proofs.units.joined_is_both.Goals as goal
use Rattle.vale_act.proofs.SharesPasses.{joined-both}

pub returns : goal.returns
returns c = joined-both
