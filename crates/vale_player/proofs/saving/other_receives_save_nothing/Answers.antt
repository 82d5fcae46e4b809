use Rattle.vale_player.proofs.SavingSyncs.{other-receives-save-nothing}
use Rattle.vale_player.proofs.saving.other_receives_save_nothing.Goals as goal

pub returns : goal.returns
returns c = other-receives-save-nothing
