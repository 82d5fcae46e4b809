use Rattle.vale_act.proofs.units.absent_is_of_block.Goals as goal
use Rattle.vale_act.proofs.SharesLines.{absent-of-block}

pub returns : goal.returns
returns c = absent-of-block
