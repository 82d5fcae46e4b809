use Rattle.vale_replay.proofs.laws.buffers_are_owned_by_name.Goals as goal
use Rattle.vale_replay.proofs.OwnedByName.{owned-by-name}

pub returns : goal.returns
returns c = owned-by-name
