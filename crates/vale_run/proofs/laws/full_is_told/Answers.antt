use Rattle.vale_run.proofs.laws.full_is_told.Goals as goal
use Rattle.vale_run.proofs.FullTold.{full-told}

pub returns : goal.returns
returns c = full-told
