use Rattle.vale_player.proofs.laws.memory_stops.Goals as goal
use Rattle.vale_player.proofs.Stays.{memory-stops}

pub returns : goal.returns
returns c = memory-stops
