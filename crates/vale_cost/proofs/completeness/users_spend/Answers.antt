use Rattle.vale_cost.proofs.completeness.users_spend.Goals as goal
use Rattle.vale_cost.proofs.RoomUsers.{users-spend}

pub returns : goal.returns
returns c = users-spend
