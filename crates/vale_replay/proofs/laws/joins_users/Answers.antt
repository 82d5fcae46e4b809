use Rattle.vale_replay.proofs.laws.joins_users.Goals as goal
use Rattle.vale_replay.proofs.Joins.{joins-users}

pub returns : goal.returns
returns c = joins-users
