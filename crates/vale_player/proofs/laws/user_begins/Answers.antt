use Rattle.vale_player.proofs.laws.user_begins.Goals as goal
use Rattle.vale_player.proofs.Stays.{user-begins}

pub returns : goal.returns
returns c = user-begins
