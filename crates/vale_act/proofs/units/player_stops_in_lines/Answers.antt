use Rattle.vale_act.proofs.units.player_stops_in_lines.Goals as goal
use Rattle.vale_act.proofs.SharesLines.{player-stops}

pub returns : goal.returns
returns c = player-stops
