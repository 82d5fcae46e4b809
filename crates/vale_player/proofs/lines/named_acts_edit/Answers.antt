use Rattle.vale_player.proofs.lines.named_acts_edit.Goals as goal
use Rattle.vale_player.proofs.NamedActs.{named-acts}

pub returns : goal.returns
returns c = named-acts
