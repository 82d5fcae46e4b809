use Rattle.vale_player.proofs.lines.failed_sends_end.Goals as goal
use Rattle.vale_player.proofs.LineLaws.{failed-sends}

pub returns : goal.returns
returns c = failed-sends
