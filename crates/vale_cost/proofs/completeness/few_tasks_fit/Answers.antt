use Rattle.vale_cost.proofs.completeness.few_tasks_fit.Goals as goal
use Rattle.vale_cost.proofs.RoomScripts.{few-fit}

pub returns : goal.returns
returns c = few-fit
