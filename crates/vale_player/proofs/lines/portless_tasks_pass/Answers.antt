use Rattle.vale_player.proofs.lines.portless_tasks_pass.Goals as goal
use Rattle.vale_player.proofs.LineLaws.{tasks-pass}

pub returns : goal.returns
returns c = tasks-pass
