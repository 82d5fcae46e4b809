use Rattle.vale_replay.proofs.laws.others_change_no_call.Goals as goal
use Rattle.vale_replay.proofs.Others.{others-change-none}

pub returns : goal.returns
returns c = others-change-none
