use Rattle.vale_player.proofs.laws.work_is_within.Goals as goal
use Rattle.vale_player.proofs.Keeping.{work-within}

pub returns : goal.returns
returns c = work-within
