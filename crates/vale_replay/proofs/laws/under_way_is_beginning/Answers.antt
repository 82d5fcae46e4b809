use Rattle.vale_replay.proofs.laws.under_way_is_beginning.Goals as goal
use Rattle.vale_replay.proofs.OneHistory.{under-way}

pub returns : goal.returns
returns c = under-way
