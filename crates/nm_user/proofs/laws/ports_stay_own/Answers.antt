use Rattle.nm_user.proofs.SavingReads.{ports-stay-own}
use Rattle.nm_user.proofs.laws.ports_stay_own.Goals as goal

pub returns : goal.returns
returns c = ports-stay-own
