use Rattle.vale_player.proofs.lines.unnamed_acts_change_nothing.Goals as goal
use Rattle.vale_player.proofs.NamedActs.{unnamed-acts}

pub returns : goal.returns
returns c = unnamed-acts
