use Rattle.vale_cost.proofs.completeness.sends_want_little.Goals as goal
use Rattle.vale_cost.proofs.RoomSends.{sends-little}

pub returns : goal.returns
returns c = sends-little
