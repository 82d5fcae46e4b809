use Rattle.vale_replay.proofs.laws.turns_are_few.Goals as goal
use Rattle.vale_replay.proofs.Ending.{turns-are_few}

pub returns : goal.returns
returns c = turns-are_few
