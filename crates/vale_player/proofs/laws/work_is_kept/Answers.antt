use Rattle.vale_player.proofs.laws.work_is_kept.Goals as goal
use Rattle.vale_player.proofs.Keeping.{work-kept}

pub returns : goal.returns
returns c = work-kept
