use Rattle.vale_replay.proofs.laws.walks_play.Goals as goal
use Rattle.vale_replay.proofs.Walks.{walks-play}

pub returns : goal.returns
returns c = walks-play
