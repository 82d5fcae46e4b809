use Rattle.vale_cost.proofs.completeness.cost_that_fits_has_room.Goals as goal
use Rattle.vale_cost.proofs.RoomHistories.{fit-room}

pub returns : goal.returns
returns c = fit-room
