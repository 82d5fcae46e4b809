use Rattle.vale_act.proofs.units.full_stop_is_of_block.Goals as goal
use Rattle.vale_act.proofs.SharesLines.{full-stop-of-block}

pub returns : goal.returns
returns c = full-stop-of-block
