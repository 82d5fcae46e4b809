use Rattle.vale_act.proofs.units.work_is_of_block.Goals as goal
use Rattle.vale_act.proofs.SharesLines.{work-of-block}

pub returns : goal.returns
returns c = work-of-block
