use Rattle.vale_act.proofs.units.player_is_full_in_lines.Goals as goal
use Rattle.vale_act.proofs.SharesLines.{player-full}

pub returns : goal.returns
returns c = player-full
