use Rattle.vale_replay.proofs.laws.under_way_is_one.Goals as goal
use Rattle.vale_replay.proofs.OneHistory.{under-way-one}

pub returns : goal.returns
returns c = under-way-one
