use Rattle.vale_own.proofs.SideEntries.{finishes-of}
use Rattle.vale_own.proofs.laws.finishes_are_of_side.Goals as goal

pub returns : goal.returns
returns c = finishes-of
