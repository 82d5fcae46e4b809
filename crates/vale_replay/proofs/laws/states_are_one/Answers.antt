use Rattle.vale_replay.proofs.laws.states_are_one.Goals as goal
use Rattle.vale_replay.proofs.Turns.{states-one}

pub returns : goal.returns
returns c = states-one
