use Rattle.vale_replay.proofs.laws.turns_read_to_their_last.Goals as goal
use Rattle.vale_replay.proofs.Promises.{turns-read}

pub returns : goal.returns
returns c = turns-read
