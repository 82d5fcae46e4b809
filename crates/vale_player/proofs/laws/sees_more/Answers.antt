use Rattle.vale_player.proofs.laws.sees_more.Goals as goal
use Rattle.vale_player.proofs.Stays.{sees-more}

pub returns : goal.returns
returns c = sees-more
