use Rattle.vale_player.proofs.lines.acts_between_edit.Goals as goal
use Rattle.vale_player.proofs.NamedActs.{acts-between}

pub returns : goal.returns
returns c = acts-between
