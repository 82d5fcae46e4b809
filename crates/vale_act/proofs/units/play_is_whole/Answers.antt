use Rattle.vale_act.proofs.units.play_is_whole.Goals as goal
use Rattle.vale_act.proofs.UnitTurns.{play-whole}

pub returns : goal.returns
returns c = play-whole
