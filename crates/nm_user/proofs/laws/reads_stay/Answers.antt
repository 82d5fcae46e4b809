use Rattle.nm_user.proofs.SavingReads.{reads-stay}
use Rattle.nm_user.proofs.laws.reads_stay.Goals as goal

pub returns : goal.returns
returns c = reads-stay
