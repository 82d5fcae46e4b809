use Rattle.vale_player.proofs.laws.stopped_call_is_kept.Goals as goal
use Rattle.vale_player.proofs.Keeping.{call-kept}

pub returns : goal.returns
returns c = call-kept
