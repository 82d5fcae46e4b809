use Rattle.vale_player.proofs.lines.detaches_are_done.Goals as goal
use Rattle.vale_player.proofs.LineLaws.{detaches-done}

pub returns : goal.returns
returns c = detaches-done
