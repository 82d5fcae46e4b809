use Rattle.vale_player.proofs.SavingSyncs.{failed-transmits-save-nothing}
use Rattle.vale_player.proofs.saving.failed_transmits_save_nothing.Goals as goal

pub returns : goal.returns
returns c = failed-transmits-save-nothing
