use Rattle.vale_player.proofs.laws.settling_is_own.Goals as goal
use Rattle.vale_player.proofs.Settled.{settling-own}

pub returns : goal.returns
returns c = settling-own
