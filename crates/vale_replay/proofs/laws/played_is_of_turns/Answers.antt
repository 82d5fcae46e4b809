use Rattle.vale_replay.proofs.laws.played_is_of_turns.Goals as goal
use Rattle.vale_replay.proofs.Parts.{played-of-turns}

pub returns : goal.returns
returns c = played-of-turns
