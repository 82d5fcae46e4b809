use Rattle.vale_replay.proofs.laws.users_fit.Goals as goal
use Rattle.vale_replay.proofs.FitUsers.{users-fit}

pub returns : goal.returns
returns c = users-fit
