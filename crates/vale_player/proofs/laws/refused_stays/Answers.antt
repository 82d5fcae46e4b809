use Rattle.vale_player.proofs.laws.refused_stays.Goals as goal
use Rattle.vale_player.proofs.Stays.{refused-stays}

pub returns : goal.returns
returns c = refused-stays
