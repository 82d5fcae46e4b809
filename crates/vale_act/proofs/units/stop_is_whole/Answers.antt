use Rattle.vale_act.proofs.units.stop_is_whole.Goals as goal
use Rattle.vale_act.proofs.UnitStops.{stop-whole}

pub returns : goal.returns
returns c = stop-whole
