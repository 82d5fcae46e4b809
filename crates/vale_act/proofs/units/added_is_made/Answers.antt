use Rattle.vale_act.proofs.units.added_is_made.Goals as goal
use Rattle.vale_act.proofs.SharesPasses.{made-added}

pub returns : goal.returns
returns c = made-added
