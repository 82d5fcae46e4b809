use Rattle.vale_own.proofs.SideEntries.{receives-of}
use Rattle.vale_own.proofs.laws.receives_are_of_side.Goals as goal

pub returns : goal.returns
returns c = receives-of
