use Rattle.vale_cost.proofs.completeness.light_scripts_fit.Goals as goal
use Rattle.vale_cost.proofs.RoomLines.{light-fit}

pub returns : goal.returns
returns c = light-fit
