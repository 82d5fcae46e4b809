use Rattle.vale_act.proofs.departing.turns_enter_not.Goals as goal
use Rattle.vale_act.proofs.DepartingTurns.{turns-enter-not}

pub returns : goal.returns
returns c = turns-enter-not
