use Rattle.vale_act.proofs.units.share_stops.Goals as goal
use Rattle.vale_act.proofs.SharesOne.{share-stops}

pub returns : goal.returns
returns c = share-stops
