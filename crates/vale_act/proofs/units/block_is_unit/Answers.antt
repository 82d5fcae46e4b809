use Rattle.vale_act.proofs.units.block_is_unit.Goals as goal
use Rattle.vale_act.proofs.SharesBlock.{block-unit}

pub returns : goal.returns
returns c = block-unit
