use Rattle.vale_act.proofs.units.stop_is_of_block.Goals as goal
use Rattle.vale_act.proofs.SharesLines.{stop-of-block}

pub returns : goal.returns
returns c = stop-of-block
