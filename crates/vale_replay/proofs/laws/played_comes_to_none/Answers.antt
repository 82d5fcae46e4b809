use Rattle.vale_replay.proofs.laws.played_comes_to_none.Goals as goal
use Rattle.vale_replay.proofs.OneState.{played-comes_none}

pub returns : goal.returns
returns c = played-comes_none
