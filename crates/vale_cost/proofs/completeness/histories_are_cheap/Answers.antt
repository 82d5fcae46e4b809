use Rattle.vale_cost.proofs.completeness.histories_are_cheap.Goals as goal
use Rattle.vale_cost.proofs.RoomHistories.{histories-cheap}

pub returns : goal.returns
returns c = histories-cheap
