use Rattle.vale_own.proofs.SideEntries.{calls-keep}
use Rattle.vale_own.proofs.laws.calls_keep_side.Goals as goal

pub returns : goal.returns
returns c = calls-keep
