use Rattle.vale_cost.proofs.completeness.turns_spend.Goals as goal
use Rattle.vale_cost.proofs.RoomSpends.{turns-spend}

pub returns : goal.returns
returns c = turns-spend
