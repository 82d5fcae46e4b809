use Rattle.vale_act.proofs.units.player_plays_lines.Goals as goal
use Rattle.vale_act.proofs.SharesLines.{player-plays}

pub returns : goal.returns
returns c = player-plays
