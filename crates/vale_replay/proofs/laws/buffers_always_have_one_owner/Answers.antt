use Rattle.vale_replay.proofs.laws.buffers_always_have_one_owner.Goals as goal
use Rattle.vale_replay.proofs.Owned.{always-owned-once}

pub returns : goal.returns
returns c = always-owned-once
