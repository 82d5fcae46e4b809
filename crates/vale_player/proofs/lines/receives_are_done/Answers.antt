use Rattle.vale_player.proofs.lines.receives_are_done.Goals as goal
use Rattle.vale_player.proofs.LineLaws.{receives-done}

pub returns : goal.returns
returns c = receives-done
