use Rattle.vale_own.proofs.SideEntries.{transmits-of}
use Rattle.vale_own.proofs.laws.transmits_are_of_side.Goals as goal

pub returns : goal.returns
returns c = transmits-of
