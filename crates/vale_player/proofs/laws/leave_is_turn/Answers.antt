use Rattle.vale_player.proofs.laws.leave_is_turn.Goals as goal
use Rattle.vale_player.proofs.Leaving.{leave-turn}

pub returns : goal.returns
returns c = leave-turn
