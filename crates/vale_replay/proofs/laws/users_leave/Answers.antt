use Rattle.vale_replay.proofs.laws.users_leave.Goals as goal
use Rattle.vale_replay.proofs.Leaving.{users-leave}

pub returns : goal.returns
returns c = users-leave
