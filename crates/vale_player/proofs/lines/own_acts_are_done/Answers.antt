use Rattle.vale_player.proofs.lines.own_acts_are_done.Goals as goal
use Rattle.vale_player.proofs.LineLaws.{own-acts}

pub returns : goal.returns
returns c = own-acts
