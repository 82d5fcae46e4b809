use Rattle.vale_replay.proofs.laws.users_hold_their_own.Goals as goal
use Rattle.vale_replay.proofs.Sides.{users-hold}

pub returns : goal.returns
returns c = users-hold
