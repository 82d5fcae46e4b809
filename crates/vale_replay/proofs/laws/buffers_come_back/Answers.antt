use Rattle.vale_replay.proofs.laws.buffers_come_back.Goals as goal
use Rattle.vale_replay.proofs.Leaving.{all-back}

pub returns : goal.returns
returns c = all-back
