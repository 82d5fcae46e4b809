use Rattle.vale_replay.proofs.laws.users_stop.Goals as goal
use Rattle.vale_replay.proofs.Stopping.{users-stop}

pub returns : goal.returns
returns c = users-stop
