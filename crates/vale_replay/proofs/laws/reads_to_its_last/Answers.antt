use Rattle.vale_replay.proofs.laws.reads_to_its_last.Goals as goal
use Rattle.vale_replay.proofs.Turns.{reads-to-last}

pub returns : goal.returns
returns c = reads-to-last
