use Rattle.vale_own.proofs.SideAsking.{watch-asked}
use Rattle.vale_own.proofs.laws.watch_may_be_asked.Goals as goal

pub returns : goal.returns
returns c = watch-asked
