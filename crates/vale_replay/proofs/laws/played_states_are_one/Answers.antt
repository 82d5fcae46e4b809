use Rattle.vale_replay.proofs.laws.played_states_are_one.Goals as goal
use Rattle.vale_replay.proofs.OneState.{played-states_one}

pub returns : goal.returns
returns c = played-states_one
