use Rattle.vale_player.proofs.lines.puts_sync.Goals as goal
use Rattle.vale_player.proofs.LineLaws.{puts-sync}

pub returns : goal.returns
returns c = puts-sync
