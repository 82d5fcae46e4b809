use Rattle.nm_user.proofs.SavingReads.{reads-grow}
use Rattle.nm_user.proofs.laws.reads_grow.Goals as goal

pub returns : goal.returns
returns c = reads-grow
