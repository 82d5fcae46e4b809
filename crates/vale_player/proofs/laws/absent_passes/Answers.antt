use Rattle.vale_player.proofs.laws.absent_passes.Goals as goal
use Rattle.vale_player.proofs.Absent.{absent-passes}

pub returns : goal.returns
returns c = absent-passes
