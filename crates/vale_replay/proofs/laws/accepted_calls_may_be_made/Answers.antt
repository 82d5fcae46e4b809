use Rattle.vale_replay.proofs.laws.accepted_calls_may_be_made.Goals as goal
use Rattle.vale_replay.proofs.FitUsers.{accepted-may}

pub returns : goal.returns
returns c = accepted-may
