use Rattle.vale_own.proofs.SideEntries.{calls-own}
use Rattle.vale_own.proofs.laws.calls_are_own.Goals as goal

pub returns : goal.returns
returns c = calls-own
