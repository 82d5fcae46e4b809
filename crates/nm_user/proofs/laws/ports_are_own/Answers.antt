use Rattle.nm_user.proofs.SavingReads.{ports-are-own}
use Rattle.nm_user.proofs.laws.ports_are_own.Goals as goal

pub returns : goal.returns
returns c = ports-are-own
