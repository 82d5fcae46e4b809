use Rattle.vale_player.proofs.laws.call_is_turn.Goals as goal
use Rattle.vale_player.proofs.Turns.{call-turn}

pub returns : goal.returns
returns c = call-turn
