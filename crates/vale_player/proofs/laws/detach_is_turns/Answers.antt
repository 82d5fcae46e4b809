use Rattle.vale_player.proofs.laws.detach_is_turns.Goals as goal
use Rattle.vale_player.proofs.Detaching.{detach-turns}

pub returns : goal.returns
returns c = detach-turns
