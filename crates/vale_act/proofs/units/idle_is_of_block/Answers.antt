use Rattle.vale_act.proofs.units.idle_is_of_block.Goals as goal
use Rattle.vale_act.proofs.SharesLines.{idle-of-block}

pub returns : goal.returns
returns c = idle-of-block
