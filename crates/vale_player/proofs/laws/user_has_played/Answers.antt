use Rattle.vale_player.proofs.laws.user_has_played.Goals as goal
use Rattle.vale_player.proofs.Stays.{user-played}

pub returns : goal.returns
returns c = user-played
