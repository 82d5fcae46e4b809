use Rattle.vale_replay.proofs.laws.reached_states_are_one.Goals as goal
use Rattle.vale_replay.proofs.OneState.{reached-states_one}

pub returns : goal.returns
returns c = reached-states_one
