use Rattle.vale_player.proofs.lines.puts_call.Goals as goal
use Rattle.vale_player.proofs.LineLaws.{puts-call}

pub returns : goal.returns
returns c = puts-call
