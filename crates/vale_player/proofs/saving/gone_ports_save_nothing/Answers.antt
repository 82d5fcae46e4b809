use Rattle.vale_player.proofs.SavingLeaving.{gone-save-nothing}
use Rattle.vale_player.proofs.saving.gone_ports_save_nothing.Goals as goal

pub returns : goal.returns
returns c = gone-save-nothing
