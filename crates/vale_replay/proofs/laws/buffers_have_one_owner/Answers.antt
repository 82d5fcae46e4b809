use Rattle.vale_replay.proofs.laws.buffers_have_one_owner.Goals as goal
use Rattle.vale_replay.proofs.Owned.{owned-once}

pub returns : goal.returns
returns c = owned-once
