use Rattle.vale_replay.proofs.laws.pieces_are_one.Goals as goal
use Rattle.vale_replay.proofs.Turns.{pieces-one}

pub returns : goal.returns
returns c = pieces-one
