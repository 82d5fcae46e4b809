use Rattle.vale_cost.proofs.completeness.entries_want_little.Goals as goal
use Rattle.vale_cost.proofs.RoomWants.{entries-little}

pub returns : goal.returns
returns c = entries-little
