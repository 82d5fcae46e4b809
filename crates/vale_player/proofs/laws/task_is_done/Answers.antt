use Rattle.vale_player.proofs.laws.task_is_done.Goals as goal
use Rattle.vale_player.proofs.Stays.{task-done}

pub returns : goal.returns
returns c = task-done
