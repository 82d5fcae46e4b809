use Rattle.nm_user.proofs.SavingRead.{received-are-read}
use Rattle.nm_user.proofs.laws.received_are_read.Goals as goal

pub returns : goal.returns
returns c = received-are-read
