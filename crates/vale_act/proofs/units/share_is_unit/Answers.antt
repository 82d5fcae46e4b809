use Rattle.vale_act.proofs.units.share_is_unit.Goals as goal
use Rattle.vale_act.proofs.SharesOne.{share-unit}

pub returns : goal.returns
returns c = share-unit
