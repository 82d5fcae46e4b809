use Rattle.vale_player.proofs.lines.calls_are_done.Goals as goal
use Rattle.vale_player.proofs.LineLaws.{calls-done}

pub returns : goal.returns
returns c = calls-done
