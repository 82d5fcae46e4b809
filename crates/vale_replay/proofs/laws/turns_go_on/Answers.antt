use Rattle.vale_replay.proofs.laws.turns_go_on.Goals as goal
use Rattle.vale_replay.proofs.Promises.{turns-go_on}

pub returns : goal.returns
returns c = turns-go_on
