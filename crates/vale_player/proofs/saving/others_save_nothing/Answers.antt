use Rattle.vale_player.proofs.SavingFrames.{others-save-nothing}
use Rattle.vale_player.proofs.saving.others_save_nothing.Goals as goal

pub returns : goal.returns
returns c = others-save-nothing
