use Rattle.vale_player.proofs.lines.lines_end.Goals as goal
use Rattle.vale_player.proofs.LineLaws.{lines-end}

pub returns : goal.returns
returns c = lines-end
