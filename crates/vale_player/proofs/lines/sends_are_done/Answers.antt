use Rattle.vale_player.proofs.lines.sends_are_done.Goals as goal
use Rattle.vale_player.proofs.LineLaws.{sends-done}

pub returns : goal.returns
returns c = sends-done
