use Rattle.vale_replay.proofs.laws.calls_may_be_made.Goals as goal
use Rattle.vale_replay.proofs.Calling.{calls-may}

pub returns : goal.returns
returns c = calls-may
