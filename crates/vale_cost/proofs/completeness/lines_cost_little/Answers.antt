use Rattle.vale_cost.proofs.completeness.lines_cost_little.Goals as goal
use Rattle.vale_cost.proofs.RoomCosts.{lines-cost}

pub returns : goal.returns
returns c = lines-cost
