use Rattle.vale_player.proofs.SavingFrames.{syncs-save-nothing}
use Rattle.vale_player.proofs.saving.syncs_save_nothing.Goals as goal

pub returns : goal.returns
returns c = syncs-save-nothing
