use Rattle.vale_own.proofs.SideKept.{side-begins}
use Rattle.vale_own.proofs.laws.side_begins.Goals as goal

pub returns : goal.returns
returns c = side-begins
