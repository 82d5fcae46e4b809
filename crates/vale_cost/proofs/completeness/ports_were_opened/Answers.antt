use Rattle.vale_cost.proofs.completeness.ports_were_opened.Goals as goal
use Rattle.vale_cost.proofs.RoomHistories.{were-opened}

pub returns : goal.returns
returns c = were-opened
