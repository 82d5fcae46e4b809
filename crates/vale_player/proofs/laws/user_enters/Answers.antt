use Rattle.vale_player.proofs.laws.user_enters.Goals as goal
use Rattle.vale_player.proofs.Entering.{user-enters}

pub returns : goal.returns
returns c = user-enters
