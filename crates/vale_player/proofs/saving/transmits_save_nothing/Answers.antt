use Rattle.vale_player.proofs.SavingSyncs.{transmits-save-nothing}
use Rattle.vale_player.proofs.saving.transmits_save_nothing.Goals as goal

pub returns : goal.returns
returns c = transmits-save-nothing
