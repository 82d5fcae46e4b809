use Rattle.vale_cost.proofs.completeness.room_is_not_refused.Goals as goal
use Rattle.vale_cost.proofs.RoomHistories.{not-refused}

pub returns : goal.returns
returns c = not-refused
