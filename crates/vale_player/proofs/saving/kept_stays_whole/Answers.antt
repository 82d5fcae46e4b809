use Rattle.vale_player.proofs.KeptPorts.{whole-stays}
use Rattle.vale_player.proofs.saving.kept_stays_whole.Goals as goal

pub returns : goal.returns
returns c = whole-stays
