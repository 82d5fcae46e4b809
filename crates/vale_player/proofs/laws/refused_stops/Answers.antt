use Rattle.vale_player.proofs.laws.refused_stops.Goals as goal
use Rattle.vale_player.proofs.Stays.{refused-stops}

pub returns : goal.returns
returns c = refused-stops
