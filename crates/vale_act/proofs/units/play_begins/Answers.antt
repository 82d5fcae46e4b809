use Rattle.vale_act.proofs.units.play_begins.Goals as goal
use Rattle.vale_act.proofs.UnitTurns.{play-begins}

pub returns : goal.returns
returns c = play-begins
