use Rattle.vale_player.proofs.SavingLeaving.{left-ports-are-gone}
use Rattle.vale_player.proofs.saving.left_ports_are_gone.Goals as goal

pub returns : goal.returns
returns c = left-ports-are-gone
