use Rattle.vale_player.proofs.laws.stop_is_kept.Goals as goal
use Rattle.vale_player.proofs.Keeping.{stop-kept}

pub returns : goal.returns
returns c = stop-kept
