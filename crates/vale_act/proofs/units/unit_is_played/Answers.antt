use Rattle.vale_act.proofs.units.unit_is_played.Goals as goal
use Rattle.vale_act.proofs.UnitTurns.{unit-played}

pub returns : goal.returns
returns c = unit-played
