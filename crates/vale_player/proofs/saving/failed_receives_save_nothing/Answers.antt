use Rattle.vale_player.proofs.SavingSyncs.{failed-receives-save-nothing}
use Rattle.vale_player.proofs.saving.failed_receives_save_nothing.Goals as goal

pub returns : goal.returns
returns c = failed-receives-save-nothing
