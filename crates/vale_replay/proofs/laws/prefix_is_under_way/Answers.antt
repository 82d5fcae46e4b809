use Rattle.vale_replay.proofs.laws.prefix_is_under_way.Goals as goal
use Rattle.vale_replay.proofs.Prefixes.{prefix-under-way}

pub returns : goal.returns
returns c = prefix-under-way
