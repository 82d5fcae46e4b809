use Rattle.vale_own.proofs.SideEntries.{others-keep}
use Rattle.vale_own.proofs.laws.others_keep_side.Goals as goal

pub returns : goal.returns
returns c = others-keep
