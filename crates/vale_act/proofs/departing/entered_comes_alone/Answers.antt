use Rattle.vale_act.proofs.departing.entered_comes_alone.Goals as goal
use Rattle.vale_act.proofs.DepartingPlayers.{entered-alone}

pub returns : goal.returns
returns c = entered-alone
