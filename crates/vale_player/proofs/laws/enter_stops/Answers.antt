use Rattle.vale_player.proofs.laws.enter_stops.Goals as goal
use Rattle.vale_player.proofs.Absent.{enter-stops}

pub returns : goal.returns
returns c = enter-stops
