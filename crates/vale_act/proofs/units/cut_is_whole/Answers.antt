use Rattle.vale_act.proofs.units.cut_is_whole.Goals as goal
use Rattle.vale_act.proofs.SharesPasses.{cut-whole}

pub returns : goal.returns
returns c = cut-whole
