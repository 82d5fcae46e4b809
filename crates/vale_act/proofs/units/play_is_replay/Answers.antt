use Rattle.vale_act.proofs.units.play_is_replay.Goals as goal
use Rattle.vale_act.proofs.SharesLines.{play-replays}

pub returns : goal.returns
returns c = play-replays
