use Rattle.vale_replay.proofs.laws.calls_are_at_once.Goals as goal
use Rattle.vale_replay.proofs.OneState.{calls-at_once}

pub returns : goal.returns
returns c = calls-at_once
