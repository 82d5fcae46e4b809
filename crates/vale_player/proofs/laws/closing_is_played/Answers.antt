use Rattle.vale_player.proofs.laws.closing_is_played.Goals as goal
use Rattle.vale_player.proofs.Closing.{closing-played}

pub returns : goal.returns
returns c = closing-played
