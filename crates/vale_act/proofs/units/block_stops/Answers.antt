use Rattle.vale_act.proofs.units.block_stops.Goals as goal
use Rattle.vale_act.proofs.SharesBlock.{block-stops}

pub returns : goal.returns
returns c = block-stops
