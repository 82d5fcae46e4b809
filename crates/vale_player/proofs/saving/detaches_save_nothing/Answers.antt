use Rattle.vale_player.proofs.SavingLeaving.{detach-saves-nothing}
use Rattle.vale_player.proofs.saving.detaches_save_nothing.Goals as goal

pub returns : goal.returns
returns c = detach-saves-nothing
