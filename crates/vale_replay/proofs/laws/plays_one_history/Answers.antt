use Rattle.vale_replay.proofs.laws.plays_one_history.Goals as goal
use Rattle.vale_replay.proofs.OneHistory.{plays-one}

pub returns : goal.returns
returns c = plays-one
