use Rattle.vale_replay.proofs.laws.played_is_legal.Goals as goal
use Rattle.vale_replay.proofs.Legal.{played-legal}

pub returns : goal.returns
returns c = played-legal
